-- A value that is owned or lent.
use Rattle.tinymist_std.specs.declared.cow_mut.CowMut.{CowMut}
use Rattle.tinymist_std.specs.declared.cow_mut.CowMut.TheVariants.{Owned, Borrowed}

-- the value within
abbrev pub cow_value : {T : Type 0} → CowMut T → T
cow_value (Owned x) = x
cow_value (Borrowed r) = r.now

-- the same with another value within; a lent one is lent as before
abbrev pub cow_with : {T : Type 0} → CowMut T → T → CowMut T
cow_with (Owned x) y = Owned y
cow_with (Borrowed r) y = Borrowed (record r { now = y })
