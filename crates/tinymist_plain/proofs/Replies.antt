-- What the definition replies to edits that map files and to views, over a disk without files, by lists of entries, which
-- compute where the maps of versions don't.
use Rattle.std.proofs.Common.{◌≡◌, ℕ, ◌+◌, ◌-◌, ◌==◌, Bool, true, false, cond, not, ◌&&◌, ◌||◌, List, [], ◌∷◌, ◌++◌, length, map, refl, sym, ap, ◌∙◌, Option, Some, None}
use Rattle.std.specs.Prelude.{codes, slice_get, ⊤}
use Rattle.std.specs.Str.{is_utf8, chars}
use Rattle.hex.specs.Hex.{decode_pairs, encode_with}
use Rattle.std.specs.Fmt.{digits}
use lib.Utf8.{encode}
use Rattle.std.specs.FinMap as finmap
use Rattle.std.specs.FinMap.{put}
use Rattle.std.specs.List.{list_any}
use Rattle.std.specs.Option.{option_map}
use Rattle.std.proofs.lemmas.List.{length-map, map-append}
use Rattle.std.proofs.lemmas.Option.{slice_get-map}
use Rattle.ty_model.specs.Values.{Id, id_cmp, text_cmp, Answer}
use Rattle.ty_model.specs.Version.{Version, Stamp, same_id}
use Rattle.ty_model.specs.Batch.{MapPath, UnmapPath, Clear, ChangeSet, ChangeView, commit, next_stamp}
use Rattle.ty_model.specs.Batch as batch
use Rattle.ty_model.specs.Places.{id_by_parent}
use Rattle.ty_model.specs.Space.{Space}
use Rattle.session_grammar.specs.Command.{Target, Live, Command, Edit, MapId, UnmapId, Rootless, Snapshot, Read, Source, Line, Paths, Ids, Path, Clean, PathWord, TagWord}
use Rattle.session_grammar.specs.Reply.{Reply, AtRevision, ViewNumber, BadView, BadId, reply_to, reply_line}
use Rattle.tinymist_session.specs.Machine.{State, opening, step, view_at, with_asked, on_named, read_in}
use Rattle.tinymist_session.specs.Session.{default_limits, replies_from, replies_to, commands_of}
use Rattle.tinymist_plain.specs.Kept.{Lists, Listed, listed, same_lists, looked}
use Rattle.tinymist_plain.specs.Worked.{no_files, IsWorked}
use Rattle.tinymist_plain.proofs.Edits.{mapped, committed}
use Rattle.tinymist_plain.proofs.Lists.{entries-empty}
use Rattle.tinymist_plain.proofs.Looks.{look_is}
use Rattle.tinymist_plain.proofs.Asked.{views_same, got}

abbrev Entries : Type 0
Entries = List (List ℕ × Answer)

-- the lists in which these are mapped
abbrev with_paths : Entries → Lists
with_paths entries = record { by_id = []; by_path = entries; told = []; drops = [] }

abbrev first_stamp : Stamp
first_stamp = record { space = 1; revision = 2 }

abbrev version_by : ℕ → Entries → Listed
version_by n entries = record { revision = n; layers = with_paths entries; reset = first_stamp; resolver = finmap.empty }

abbrev shown : ℕ × Entries → Listed
shown v = version_by v.0 v.1

-- ---- a read

abbrev plain_reply : Option (ℕ × Entries) → Option Id → Reply
plain_reply None id = BadView
plain_reply (Some view) None = BadId
plain_reply (Some view) (Some id) = reply_to (looked (shown view) no_files id)

-- ---- all replies

abbrev viewed : List (ℕ × Entries) → ℕ → Option (ℕ × Entries)
viewed views k = cond (k == 0) None (slice_get views (k - 1))

-- each maps a path of the live state, takes a snapshot, or reads a path
abbrev AreSimple : List Command → Type 0
AreSimple [] = ⊤
AreSimple (Edit target (MapPath path answer) ∷ commands) = (target ≡ Live) × AreSimple commands
AreSimple (Snapshot ∷ commands) = AreSimple commands
AreSimple (Read k (PathWord path) ∷ commands) = AreSimple commands
AreSimple (command ∷ commands) = ⊥

abbrev answers : ℕ → Entries → List (ℕ × Entries) → List Command → List ℕ
answers n live views [] = []
answers n live views (Edit target (MapPath path answer) ∷ commands) =
    let more = put text_cmp path answer live in
    cond (same_lists (with_paths live) (with_paths more))
    (reply_line (AtRevision n) ++ answers n live views commands)
    (reply_line (AtRevision (n + 1)) ++ answers (n + 1) more views commands)
answers n live views (Snapshot ∷ commands) = reply_line (ViewNumber (length views + 1)) ++ answers n live (views ++ (n, live) ∷ []) commands
answers n live views (Read k (PathWord path) ∷ commands) = reply_line (plain_reply (viewed views k) (id_by_parent path)) ++ answers n live views commands
answers n live views (command ∷ commands) = []

-- a state that has these entries
abbrev now_of : Space → Listed
now_of s = listed s.now

record Shows (n : ℕ) (live : Entries) (views : List (ℕ × Entries)) (s : State) : Type 0 where
  live_is : listed s.live.now ≡ version_by n live
  views_are : map now_of s.views ≡ map shown views

-- ---- an edit

commit_is : (space n : ℕ) (live : Entries) (v : Version) (path : List ℕ) (answer : Answer) → listed v ≡ version_by n live → listed (commit space v (MapPath path answer ∷ []))
    ≡ cond (same_lists (with_paths live) (with_paths (put text_cmp path answer live))) (version_by n live) (version_by (n + 1) (put text_cmp path answer live))
commit_is space n live v path answer is =
    committed space v (version_by n live) (sym is) (MapPath path answer) false refl (with_paths (put text_cmp path answer live))
    (mapped (with_paths live) v.layers (next_stamp space v.revision) (ap (λ (l : Listed). l.layers) (sym is)) path answer (put text_cmp path answer live) refl)
    ∙ turned (same_lists (with_paths live) (with_paths (put text_cmp path answer live)))
  where
    turned : (b : Bool) → cond (not b || false) (version_by (n + 1) (put text_cmp path answer live)) (version_by n live) ≡ cond b (version_by n live) (version_by (n + 1) (put text_cmp path answer live))
    turned true = refl
    turned false = refl

-- ---- a view

views_agree : (spaces : List Space) (views : List (ℕ × Entries)) (k : ℕ) → map now_of spaces ≡ map shown views → option_map now_of (view_at spaces k) ≡ option_map shown (viewed views k)
views_agree spaces views k is = elim (k == 0) as (λ b. option_map now_of (cond b None (slice_get spaces (k - 1))) ≡ option_map shown (cond b None (slice_get views (k - 1)))) [
  | true ↦ refl
  | false ↦ sym (slice_get-map now_of spaces (k - 1)) ∙ ap (λ (vs : List Listed). slice_get vs (k - 1)) is ∙ slice_get-map shown views (k - 1)
]

some_same : {A : Type 0} (x y : A) → Some x ≡ Some y → x ≡ y
some_same x y e = cc

reads : (s : State) (k : ℕ) (named : Option Id) (w : Option Space) (view : Option (ℕ × Entries)) → option_map now_of w ≡ option_map shown view → plain_reply view named ≡ (on_named s w named (read_in s no_files k)).reply
reads s k named None None is = refl
reads s k named None (Some view) is = absurd (cc)
reads s k named (Some w) None is = absurd (cc)
reads s k None (Some w) (Some view) is = refl
reads s k (Some id) (Some w) (Some view) is = ap reply_to (sym (look_is w.now no_files id ∙ ap (λ (l : Listed). looked l no_files id) (some_same (now_of w) (shown view) is)))

-- asked ids are no part of a version
now-asked : (id : Id) (w : Space) → now_of (with_asked id w) ≡ now_of w
now-asked id w = elim (w.compiling && not (list_any (same_id id) w.asked)) as (λ b. now_of (cond b (record w { asked = w.asked ++ id ∷ [] }) w) ≡ now_of w) [ true ↦ refl | false ↦ refl ]

module _ (s : State) (k : ℕ) where
  live_stays : (named : Option Id) (w : Option Space) → listed (on_named s w named (read_in s no_files k)).state.live.now ≡ listed s.live.now
  live_stays named None = refl
  live_stays None (Some w) = refl
  live_stays (Some id) (Some w) = refl

  views_stay : (named : Option Id) (w : Option Space) → view_at s.views k ≡ w → map now_of (on_named s w named (read_in s no_files k)).state.views ≡ map now_of s.views
  views_stay named None e = refl
  views_stay None (Some w) e = refl
  views_stay (Some id) (Some w) e = views_same now_of now-asked s.views (k - 1) w id (got (k == 0) (slice_get s.views (k - 1)) w e)

-- ---- all commands

counts : (s : State) (views : List (ℕ × Entries)) → map now_of s.views ≡ map shown views → length views ≡ length s.views
counts s views is = sym (length-map views shown) ∙ ap length (sym is) ∙ length-map s.views now_of

answers-are : (commands : List Command) → AreSimple commands → (n : ℕ) (live : Entries) (views : List (ℕ × Entries)) (s : State) → Shows n live views s → answers n live views commands ≡ replies_from no_files s commands
answers-are [] simple n live views s h = refl
answers-are (Edit target (MapPath path answer) ∷ commands) simple n live views s h =
    let after = (step s no_files (Edit Live (MapPath path answer))).state in
    let more : Entries = put text_cmp path answer live in
    let same : Bool = same_lists (with_paths live) (with_paths more) in
    let now : listed after.live.now ≡ cond same (version_by n live) (version_by (n + 1) more) = commit_is s.live.number n live s.live.now path answer h.live_is in
    elim same as (λ b. same ≡ b → cond b (reply_line (AtRevision n) ++ answers n live views commands) (reply_line (AtRevision (n + 1)) ++ answers (n + 1) more views commands) ≡ reply_line (AtRevision after.live.now.revision) ++ replies_from no_files after commands) [
      | true ↦ λ e.
          let is : listed after.live.now ≡ version_by n live = now ∙ ap (λ b. cond b (version_by n live) (version_by (n + 1) more)) e in
          ap (λ (v : Listed). reply_line (AtRevision v.revision) ++ answers n live views commands) (sym is)
          ∙ ap (λ (bytes : List ℕ). reply_line (AtRevision after.live.now.revision) ++ bytes) (answers-are commands simple.1 n live views after (record { live_is = is; views_are = h.views_are }))
      | false ↦ λ e.
          let is : listed after.live.now ≡ version_by (n + 1) more = now ∙ ap (λ b. cond b (version_by n live) (version_by (n + 1) more)) e in
          ap (λ (v : Listed). reply_line (AtRevision v.revision) ++ answers (n + 1) more views commands) (sym is)
          ∙ ap (λ (bytes : List ℕ). reply_line (AtRevision after.live.now.revision) ++ bytes) (answers-are commands simple.1 (n + 1) more views after (record { live_is = is; views_are = h.views_are }))
    ] refl
    ∙ ap (λ (t : Target). replies_from no_files s (Edit t (MapPath path answer) ∷ commands)) (sym simple.0)
answers-are (Edit target (UnmapPath path) ∷ commands) simple n live views s h = absurd simple
answers-are (Edit target (batch.MapId id answer) ∷ commands) simple n live views s h = absurd simple
answers-are (Edit target (batch.UnmapId id) ∷ commands) simple n live views s h = absurd simple
answers-are (Edit target Clear ∷ commands) simple n live views s h = absurd simple
answers-are (Edit target (ChangeSet removes inserts) ∷ commands) simple n live views s h = absurd simple
answers-are (Edit target ChangeView ∷ commands) simple n live views s h = absurd simple
answers-are (MapId target word content ∷ commands) simple n live views s h = absurd simple
answers-are (UnmapId target word ∷ commands) simple n live views s h = absurd simple
answers-are (Rootless vpath ∷ commands) simple n live views s h = absurd simple
answers-are (Source k word ∷ commands) simple n live views s h = absurd simple
answers-are (Line k word offset ∷ commands) simple n live views s h = absurd simple
answers-are (Paths target ∷ commands) simple n live views s h = absurd simple
answers-are (Ids target ∷ commands) simple n live views s h = absurd simple
answers-are (Path target word ∷ commands) simple n live views s h = absurd simple
answers-are (Clean target r words ∷ commands) simple n live views s h = absurd simple
answers-are (Read k (TagWord tag) ∷ commands) simple n live views s h = absurd simple
answers-are (Snapshot ∷ commands) simple n live views s h =
    let after = (step s no_files Snapshot).state in
    let seen : map now_of after.views ≡ map shown (views ++ (n, live) ∷ []) = map-append now_of s.views _ ∙ (λ i. h.views_are i ++ h.live_is i ∷ []) ∙ sym (map-append shown views ((n, live) ∷ [])) in
    ap (λ (count : ℕ). reply_line (ViewNumber (count + 1)) ++ answers n live (views ++ (n, live) ∷ []) commands) (counts s views h.views_are)
    ∙ ap (λ (bytes : List ℕ). reply_line (ViewNumber (length s.views + 1)) ++ bytes) (answers-are commands simple n live (views ++ (n, live) ∷ []) after (record { live_is = h.live_is; views_are = seen }))
answers-are (Read k (PathWord path) ∷ commands) simple n live views s h =
    let after = (step s no_files (Read k (PathWord path))).state in
    let named = id_by_parent path in
    let reply = reads s k named (view_at s.views k) (viewed views k) (views_agree s.views views k h.views_are) in
    ap (λ (r : Reply). reply_line r ++ answers n live views commands) reply
    ∙ ap (λ (bytes : List ℕ). reply_line (step s no_files (Read k (PathWord path))).reply ++ bytes) (answers-are commands simple n live views after (record { live_is = live_stays s k named (view_at s.views k) ∙ h.live_is; views_are = views_stay s k named (view_at s.views k) refl ∙ h.views_are }))

-- ---- worked sessions

worked : (input replies : List ℕ) → AreSimple (commands_of default_limits input) → answers 2 [] [] (commands_of default_limits input) ≡ replies → replies_to default_limits no_files input ≡ replies
worked input replies simple is = sym (answers-are (commands_of default_limits input) simple 2 [] [] opening (record { live_is = first; views_are = refl })) ∙ is
  where
    first : listed opening.live.now ≡ version_by 2 []
    first = λ j. record { revision = 2; layers = record { by_id = entries-empty id_cmp j; by_path = entries-empty text_cmp j; told = entries-empty text_cmp j; drops = entries-empty text_cmp j }; reset = first_stamp; resolver = finmap.empty }

pub no_lines : IsWorked [] []
no_lines = (refl, refl)

abbrev pub map_and_read_input : List ℕ
map_and_read_input = codes "map\t0\t/w/a.typ\t=6869\nsnapshot\nread\t1\t/w/a.typ"

abbrev pub map_and_read_replies : List ℕ
map_and_read_replies = codes "ok\t3\nview\t1\nbytes\t6869\n"

pub map_and_read : IsWorked map_and_read_input map_and_read_replies
unfolding is_utf8 chars encode decode_pairs encode_with digits
map_and_read = (worked map_and_read_input map_and_read_replies (refl, tt) refl, refl)

abbrev pub two_views_input : List ℕ
two_views_input = codes "map\t0\t/w/a.typ\t=6f6c64\nsnapshot\nmap\t0\t/w/a.typ\t=6e6577\nsnapshot\nread\t1\t/w/a.typ\nread\t2\t/w/a.typ\nread\t3\t/w/a.typ\n"

abbrev pub two_views_replies : List ℕ
two_views_replies = codes "ok\t3\nview\t1\nok\t4\nview\t2\nbytes\t6f6c64\nbytes\t6e6577\nerr\tview\n"

pub two_views : IsWorked two_views_input two_views_replies
unfolding is_utf8 chars encode decode_pairs encode_with digits
two_views = (worked two_views_input two_views_replies (refl, (refl, tt)) refl, refl)
