-- What a note knows of a query, and what answers say.
use Rattle.std.specs.Prelude.{◌≡◌, Option, Some, None, IfSome, Result, Ok, Err}
use Rattle.std.specs.Borrow.{Bor}
use Rattle.once_cell.specs.Once.{cell_name}
use Rattle.tinymist_std.specs.declared.query.Note.{Note}
use Rattle.tinymist_std.specs.declared.query.Origin.{Origin}
use Rattle.tinymist_std.specs.declared.query.Origin.TheVariants.{Value, Context}
use Rattle.tinymist_std.specs.declared.query.QueryFault.{QueryFault}
use Rattle.tinymist_std.specs.declared.query.QueryFault.TheVariants.{Query, OutOfMemory}
use Rattle.tinymist_std.specs.declared.query.QueryRef.{QueryRef}

-- the value that a query was made with
abbrev pub origin_value : {T C : Type 0} → Origin T C → Option T
origin_value (Value x) = Some x
origin_value (Context c) = None

-- the value that the query was made with, or else what the note has seen
abbrev pub known_of : {T E : Type 0} → Option T → Option (Result T E) → Option (Result T E)
known_of (Some x) seen = Some (Ok x)
known_of None seen = seen

module _ {T E C : Type 0} where
  -- the value that a query was made with, if it was
  abbrev pub known_value : QueryRef T E C → Option T
  known_value q = origin_value q.origin

  -- the note was made by `note` of this query
  abbrev pub IsNoteOf : QueryRef T E C → Note T E → Type 0
  IsNoteOf q n = n.seen.cell ≡ cell_name q.cell

  -- the result that the note knows of the query
  abbrev pub known_result : QueryRef T E C → Note T E → Option (Result T E)
  known_result q n = known_of (known_value q) n.seen.known

module _ {T E : Type 0} where
  -- what is known is the value or the error of the answer, and the answer is not out of memory
  abbrev pub Tells : Option (Result T E) → Result (Bor T) (QueryFault E) → Type 0
  Tells known (Ok x) = known ≡ Some (Ok x.now)
  Tells known (Err (Query e)) = known ≡ Some (Err e.now)
  Tells known (Err OutOfMemory) = ⊥

  -- the same, but where memory ran out nothing is known
  abbrev pub Answers : Option (Result T E) → Result (Bor T) (QueryFault E) → Type 0
  Answers known (Ok x) = Tells known (Ok x)
  Answers known (Err (Query e)) = Tells known (Err (Query e))
  Answers known (Err OutOfMemory) = known ≡ None

  -- what was known stays known
  abbrev pub Stays : Option (Result T E) → Option (Result T E) → Type 0
  Stays old new = IfSome old (λ r. new ≡ Some r)

  -- two known results are one
  abbrev pub Agree : Option (Result T E) → Option (Result T E) → Type 0
  Agree a b = IfSome b (λ r. IfSome a (λ s. s ≡ r))
