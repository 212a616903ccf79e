-- What is told of an answer, and an answer that gives way to out of memory.
use Rattle.std.proofs.Common.{◌≡◌, ◌⊎◌, ℕ, ◌≤◌, Bool, true, false, List, [], refl, sym, ap, ◌∙◌, arith, inl, inr, append-nil, Option, Some, Result, Err}
use Rattle.std.specs.Io.KnownBytes.{append_known}
use Rattle.ty_model.specs.Disk.{Told}
use Rattle.ty_model.specs.Faults.{Rose}
use Rattle.std.specs.Prelude.{IsTrue}
use Rattle.session_lines.specs.declared.sink.FlushStep.{FlushStep}
use Rattle.session_lines.specs.declared.sink.FlushStep.TheVariants.{Done, Failed}
use Rattle.session_lines.specs.LineSource.{SourceSeen, HasCause}
use Rattle.session_lines.specs.ByteSink.{SinkSeen, HasRefused, TakesFront, flushed_by, IsFailedFlush}
use Rattle.tinymist_session.specs.Session.{Limits, replies_to}
use Rattle.tinymist_session.specs.declared.session.SessionFault.{SessionFault}
use Rattle.tinymist_session.specs.declared.session.SessionFault.TheVariants.{ReadFault, WriteFault, BadLine, OutOfMemory}
use Rattle.tinymist_session.specs.Run.{Answered, IsTold}
use Rattle.tinymist_session.proofs.Passes.{front, some_written}

later : (a b c : ℕ) → Rose a b → b ≤ c → Rose a c
later a b c h k = omega (arith, h, k)

pub sooner : (a b c : ℕ) → a ≤ b → Rose b c → Rose a c
sooner a b c h k = omega (arith, h, k)

-- a flush is done, or its count rose
pub flushed_or_rose : (r : FlushStep) (old new : Bool) (before now : ℕ) → new ≡ flushed_by old r → HasCause (IsFailedFlush r) before now → IsTrue new ⊎ Rose before now
flushed_or_rose Done old new before now e h = inl e
flushed_or_rose Failed old new before now e h = inr (h.cause tt)

-- a line that was offered until the sink had taken it or had failed
pub is_told : (line piece : List ℕ) (old mid new : SinkSeen) (all : Bool) → piece ≡ line
    → (all ≡ true → mid.taken ≡ append_known old.taken piece) → TakesFront old.taken mid.taken piece → (all ≡ false → HasRefused old mid)
    → new.taken ≡ mid.taken → old.faults ≤ mid.faults → mid.faults ≤ new.faults → mid.dry ≤ new.dry → IsTrue new.flushed ⊎ Rose mid.faults new.faults → IsTold line old new
is_told line piece old mid new all same whole some cause e o f d gone = record {
  front = rw e (front old.taken mid.taken piece [] line some (sym same ∙ sym (append-nil piece)));
  whole = rw e (told all refl);
  gone_on = inr (elim gone [ inl h ↦ inl h | inr h ↦ inr (sooner old.faults mid.faults new.faults o h) ]);
}
  where
    told : (b : Bool) → all ≡ b → (mid.taken ≡ append_known old.taken line) ⊎ HasRefused old new
    told true is = inl (whole is ∙ ap (append_known old.taken) same)
    told false is = elim (cause is) [ inl h ↦ inr (inl (later old.faults mid.faults new.faults h f)) | inr h ↦ inr (inr (later old.dry mid.dry new.dry h d)) ]

pub same_limits : (a b : Limits) (read : Option Limits) → Some a ≡ read → read ≡ Some b → a ≡ b
same_limits a b read e f = cc

-- a flush leaves a read fault
pub read_kept : (r r' : Result (Unit {0}) SessionFault) → (r' ≡ r) ⊎ (r' ≡ Err WriteFault) → r' ≡ Err ReadFault → r ≡ Err ReadFault
read_kept r r' same e = elim same [ inl is ↦ cc | inr is ↦ absurd (cc) ]

module _ (limits : Limits) (source source' : SourceSeen) (disk disk' : Option Told) (sink sink' : SinkSeen) where
  abbrev Of : Result (Unit {0}) SessionFault → Type 0
  Of r = Answered limits source source' disk disk' sink sink' r

  no_memory : (n : ℕ) → Of (Err (BadLine n)) → Of (Err OutOfMemory)
  no_memory n a = record {
    ends = λ input is. tt;
    written = λ input told is d fixed. some_written (replies_to limits told input) sink.taken sink'.taken (Err (BadLine n)) (a.written input told is d fixed);
    received = λ input is e. absurd (cc);
    answered = λ input told is d fixed e. absurd (cc);
    bounded = a.bounded;
    disk_stays = a.disk_stays;
    read = tt;
    was_flushed_before_read = λ e. absurd (cc);
    was_flushed = tt;
    was_flushed_without_memory = λ e. inl a.was_flushed;
    read_cause = λ e. absurd (cc);
    write_cause = λ e. absurd (cc);
  }

  pub answered_told : (r r' : Result (Unit {0}) SessionFault) → (r' ≡ r) ⊎ ((n : ℕ) × (r ≡ Err (BadLine n)) × (r' ≡ Err OutOfMemory)) → Of r → Of r'
  answered_told r r' same a = elim same [ inl e ↦ rw e a | inr e ↦ rw e.2 (no_memory e.0 (rw e.1 at a)) ]
