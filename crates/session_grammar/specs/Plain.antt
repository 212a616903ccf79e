-- Commands and replies of the code as those of the definitions.
use Rattle.std.specs.Prelude.{◌≡◌, ℕ, ◌<◌, List, [], map, length, Option, Some, None}
use Rattle.std.specs.String.{string_bytes}
use Rattle.std.specs.Borrow.{Bor}
use Rattle.ty_model.specs.Paths.{parts_at}
use Rattle.ty_path.specs.Shared.{path_text}
use Rattle.ty_syntax.specs.Error.{refusal_of}
use Rattle.tinymist_vfs.specs.Items.{clean_item, clean_text, clean_file}
use Rattle.tinymist_vfs.specs.declared.batch.item.FileChangeSet.{FileChangeSet}
use Rattle.session_grammar.specs.Command as commands
use Rattle.session_grammar.specs.Grammar.{Changes, removing, telling, joined, changes_of}
use Rattle.session_grammar.specs.Reply as replies
use Rattle.session_grammar.specs.declared.contents.ContentWord.{ContentWord}
use Rattle.session_grammar.specs.declared.contents.ContentWord.TheVariants as content
use Rattle.session_grammar.specs.declared.changes.Change.{Change}
use Rattle.session_grammar.specs.declared.changes.Change.TheVariants.{Remove, Tell}
use Rattle.session_grammar.specs.declared.contents.IdWord.{IdWord}
use Rattle.session_grammar.specs.declared.contents.IdWord.TheVariants as word
use Rattle.session_grammar.specs.declared.command.Target.{Target}
use Rattle.session_grammar.specs.declared.command.Target.TheVariants as space
use Rattle.session_grammar.specs.declared.command.Command.{Command}
use Rattle.session_grammar.specs.declared.command.Command.TheVariants as command
use Rattle.session_grammar.specs.declared.reply.Reply.{Reply}
use Rattle.session_grammar.specs.declared.reply.Reply.TheVariants as reply

-- a content as the definition has it
abbrev pub plain_content : ContentWord → commands.ContentWord
plain_content (content.Bytes bytes) = commands.BytesWord bytes.items
plain_content content.Missing = commands.MissingWord
plain_content (content.Refused error) = commands.RefusedWord (refusal_of error)

-- a change as the definition has it
abbrev pub plain_change : Change → Changes
plain_change (Remove path) = removing path
plain_change (Tell path answer) = telling path answer

-- a change set as a batch takes it
abbrev pub plain_changes : FileChangeSet → Changes
plain_changes set = record { removes = map clean_text set.removes.items; inserts = map clean_file set.inserts.items }

-- an id as it is written, as the definition has it
abbrev pub plain_id : IdWord → commands.IdWord
plain_id (word.Path path) = commands.PathWord path
plain_id (word.Tag tag) = commands.TagWord tag

-- a target as the definition has it
abbrev pub plain_target : Target → commands.Target
plain_target space.Live = commands.Live
plain_target (space.View number) = commands.View number

-- a command as the definition has it; an edit is what a batch takes of its item
abbrev pub plain_command : Command → commands.Command
plain_command (command.Edit target item) = commands.Edit (plain_target target) (clean_item item)
plain_command command.Snapshot = commands.Snapshot
plain_command (command.Read view id) = commands.Read view (plain_id id)
plain_command (command.Source view id) = commands.Source view (plain_id id)
plain_command (command.Line view id offset) = commands.Line view (plain_id id) offset
plain_command (command.Paths target) = commands.Paths (plain_target target)
plain_command (command.Ids target) = commands.Ids (plain_target target)
plain_command (command.Path target id) = commands.Path (plain_target target) (plain_id id)
plain_command (command.Clean target revision ids) = commands.Clean (plain_target target) revision (map plain_id ids.items)
plain_command (command.MapId target id content) = commands.MapId (plain_target target) (plain_id id) (plain_content content)
plain_command (command.UnmapId target id) = commands.UnmapId (plain_target target) (plain_id id)
plain_command (command.Rootless vpath) = commands.Rootless vpath

-- a reply as the definition has it
abbrev pub plain_reply : Reply → replies.Reply
plain_reply (reply.AtRevision revision) = replies.AtRevision revision
plain_reply (reply.ViewNumber number) = replies.ViewNumber number
plain_reply (reply.Contents bytes) = replies.Contents bytes
plain_reply (reply.Text text) = replies.Text (string_bytes text)
plain_reply (reply.AtPlace place) = replies.AtPlace place
plain_reply (reply.Fails error) = replies.Fails (refusal_of error)
plain_reply (reply.PathList paths) = replies.PathList (map path_text paths.items)
plain_reply (reply.IdList ids) = replies.IdList ids.items
plain_reply (reply.IdTag tag) = replies.IdTag tag
plain_reply (reply.AtPath path) = replies.AtPath (string_bytes path)
plain_reply (reply.RootlessAt vpath) = replies.RootlessAt vpath
plain_reply (reply.IsClean clean) = replies.IsClean clean
plain_reply reply.BadView = replies.BadView
plain_reply reply.BadId = replies.BadId
plain_reply reply.BadRevision = replies.BadRevision
plain_reply reply.BadOffset = replies.BadOffset

-- the fields of a text between tabs, if there is one
abbrev pub fields_of : Option (Bor (List ℕ)) → List (List ℕ)
fields_of None = []
fields_of (Some text) = parts_at 9 text.now

-- the first change that fields between tabs write, and the fields after it
abbrev pub ReadsChange : List ℕ → Change × Option (Bor (List ℕ)) → Type 0
ReadsChange text (change, rest) = (changes_of (parts_at 9 text) ≡ joined (Some (plain_change change)) (changes_of (fields_of rest))) × (length (fields_of rest) < length (parts_at 9 text))
