-- Walks, one file after another, through what stands between a pack and a taker.
use Rattle.std.proofs.Common.{◌≡◌, ℕ, ◌+◌, zero, suc, List, [], ◌∷◌, drop, Bool, true, false, cond, refl, sym, ap, subst, ◌∙◌, Some, None, Result, Ok, Err, OnOk, inl, inr, string_bytes, arith}
use Rattle.std.specs.Prelude.{slice_get}
use Rattle.std.specs.Borrow.{Bor}
use Rattle.std.specs.Str.{bytes_eq}
use Rattle.indexmap.specs.IndexMap.{insert_entry}
use Rattle.std.specs.declared.string.String.{String}
use Rattle.std.specs.declared.sync.Arc.{Arc}
use Rattle.std.specs.declared.vec.Vec.{Vec}
use Rattle.std.specs.declared.alloc.Global.{Global}
use native.Mathlib.Numerals.{unary_clauses}
use Rattle.ty_path.specs.Shared.{shared_bytes}
use Rattle.tinymist_package.specs.Walk.{File, files_of, Walks, Calls, Passes, Says, chosen, Writes, written_all}
use Rattle.tinymist_package.specs.declared.fault.PackageFault.{PackageFault}
use Rattle.tinymist_package.specs.declared.pack.file.PackFile.{PackFile}
use Rattle.tinymist_package.specs.declared.pack.lent.Lent.{Lent}
use Rattle.tinymist_package.specs.declared.pack.filter.Filtered.{Filtered}

abbrev pub Entry : Type 0
Entry = String Global × Arc (Vec ℕ Global) Global

plus_one : (n : ℕ) → n + 1 ≡ suc n
plus_one n = omega arith

-- the files from an entry on
pub file_at : (es : List Entry) (at : ℕ) (e : Entry) → slice_get es at ≡ Some e → files_of (drop at es) ≡ (string_bytes e.0, shared_bytes e.1) ∷ files_of (drop (at + 1) es)
file_at [] at e h = absurd (cc)
file_at (x ∷ es) zero e h = let same : x ≡ e = cc in ap (λ (y : Entry). (string_bytes y.0, shared_bytes y.1) ∷ files_of es) same
file_at (x ∷ es) (suc at) e h = simp unary_clauses (file_at es at e h ∙ ap (λ (n : ℕ). (string_bytes e.0, shared_bytes e.1) ∷ files_of (drop n es)) (plus_one at))

-- no file after the last
pub no_file : (es : List Entry) (at : ℕ) → slice_get es at ≡ None → files_of (drop at es) ≡ []
no_file [] zero h = refl
no_file [] (suc at) h = refl
no_file (x ∷ es) zero h = absurd (cc)
no_file (x ∷ es) (suc at) h = no_file es at h

module _ {T : Type 0} (takes : T → File → Result (Unit {0}) PackageFault → T → Type 0) (own : PackageFault → Type 0) where
  -- one file that was taken, and then the others
  pub one_more : (all : List File) (file : File) (rest : List File) (t s last : T) (r : Result (Unit {0}) PackageFault) → all ≡ file ∷ rest → takes t file (Ok tt) s → Walks takes own s rest r last → Walks takes own t all r last
  one_more all file rest t s last r is taken more = subst (λ xs. Walks takes own t xs r last) (sym is) (inl (s, taken, more))

  -- one file that the taker refused
  pub refused_at : (all : List File) (file : File) (rest : List File) (t last : T) (e : PackageFault) → all ≡ file ∷ rest → takes t file (Err e) last → Walks takes own t all (Err e) last
  refused_at all file rest t last e is taken = subst (λ xs. Walks takes own t xs (Err e) last) (sym is) (inr (e, refl, inl taken))

  -- a refusal of the pack's own
  pub ended_by : (all : List File) (t : T) (e : PackageFault) → own e → Walks takes own t all (Err e) t
  ended_by [] t e h = (h, refl)
  ended_by (x ∷ xs) t e h = inr (e, refl, inr (h, refl))

-- ---- a closure that is lent

module _ {G : Type 0} (step : G → Bor (List ℕ) → PackFile → Result (Unit {0}) PackageFault → G → Type 0) (own : PackageFault → Type 0) where
  abbrev LentTakes : Lent G → File → Result (Unit {0}) PackageFault → Lent G → Type 0
  LentTakes a file r b = Calls step a.f.now file r b.f.now × (b.f.ghost_name ≡ a.f.ghost_name)

  pub lent_walk : (a b : Lent G) (all : List File) (r : Result (Unit {0}) PackageFault) → Walks LentTakes own a all r b → (b.f.ghost_name ≡ a.f.ghost_name) × Walks (Calls step) own a.f.now all r b.f.now
  lent_walk a b [] (Ok done) w = (ap (λ (l : Lent G). l.f.ghost_name) (sym w), ap (λ (l : Lent G). l.f.now) w)
  lent_walk a b [] (Err e) w = (ap (λ (l : Lent G). l.f.ghost_name) (sym w.1), (w.0, ap (λ (l : Lent G). l.f.now) w.1))
  lent_walk a b (x ∷ xs) r (inl (s, call, more)) =
      let k = lent_walk s b xs r more in
      (k.0 ∙ call.1, inl (s.f.now, call.0, k.1))
  lent_walk a b (x ∷ xs) r (inr (e, is, inl call)) = (call.1, inr (e, is, inl call.0))
  lent_walk a b (x ∷ xs) r (inr (e, is, inr (h, same))) = (ap (λ (l : Lent G). l.f.ghost_name) (sym same), inr (e, is, inr (h, ap (λ (l : Lent G). l.f.now) same)))

-- ---- a clone

-- a walk by what is seen of the taker
pub seen_walk : {T U : Type 0} (seen : T → U) (takes : U → File → Result (Unit {0}) PackageFault → U → Type 0) (own : PackageFault → Type 0) (a b : T) (all : List File) (r : Result (Unit {0}) PackageFault)
    → Walks (λ x file q y. takes (seen x) file q (seen y)) own a all r b → Walks takes own (seen a) all r (seen b)
seen_walk seen takes own a b [] (Ok done) w = ap seen w
seen_walk seen takes own a b [] (Err e) w = (w.0, ap seen w.1)
seen_walk seen takes own a b (x ∷ xs) r (inl (s, call, more)) = inl (seen s, call, seen_walk seen takes own s b xs r more)
seen_walk seen takes own a b (x ∷ xs) r (inr (e, is, inl call)) = inr (e, is, inl call)
seen_walk seen takes own a b (x ∷ xs) r (inr (e, is, inr (h, same))) = inr (e, is, inr (h, ap seen same))

-- one file more in a map, by what is seen of it
pub insert_seen : (same : String Global → String Global → Bool) → ((a b : String Global) → same a b ≡ bytes_eq (string_bytes a) (string_bytes b))
    → (es : List Entry) (k : String Global) (v : Arc (Vec ℕ Global) Global) → files_of (insert_entry same es k v) ≡ insert_entry bytes_eq (files_of es) (string_bytes k) (shared_bytes v)
insert_seen same is [] k v = refl
insert_seen same is (e ∷ es) k v =
    elim (same k e.0) as (λ b. files_of (cond b ((e.0, v) ∷ es) (e ∷ insert_entry same es k v)) ≡ cond b ((string_bytes e.0, shared_bytes v) ∷ files_of es) ((string_bytes e.0, shared_bytes e.1) ∷ insert_entry bytes_eq (files_of es) (string_bytes k) (shared_bytes v))) [
      | true ↦ refl
      | false ↦ ap (λ (fs : List File). (string_bytes e.0, shared_bytes e.1) ∷ fs) (insert_seen same is es k v)
    ]
    ∙ ap (λ b. cond b ((string_bytes e.0, shared_bytes v) ∷ files_of es) ((string_bytes e.0, shared_bytes e.1) ∷ insert_entry bytes_eq (files_of es) (string_bytes k) (shared_bytes v))) (is k e.0)

-- all files were put in
pub all_written : (own : PackageFault → Type 0) (before after all : List File) → Walks Writes own before all (Ok tt) after → after ≡ written_all before all
all_written own before after [] w = sym w
all_written own before after (x ∷ xs) (inl (s, put, more)) = all_written own s after xs more ∙ ap (λ fs. written_all fs xs) put
all_written own before after (x ∷ xs) (inr (e, is, call)) = absurd (cc)

-- the same of any end
pub written_on_ok : (own : PackageFault → Type 0) (before after all : List File) (r : Result (Unit {0}) PackageFault) → Walks Writes own before all r after → OnOk r (after ≡ written_all before all)
written_on_ok own before after all (Ok done) w = all_written own before after all w
written_on_ok own before after all (Err e) w = tt

-- ---- a filter

chosen_yes : (accept : List ℕ → Bool) (x : File) (xs : List File) → true ≡ accept x.0 → chosen accept (x ∷ xs) ≡ x ∷ chosen accept xs
chosen_yes accept x xs e = ap (λ b. cond b (x ∷ chosen accept xs) (chosen accept xs)) (sym e)

chosen_no : (accept : List ℕ → Bool) (x : File) (xs : List File) → false ≡ accept x.0 → chosen accept (x ∷ xs) ≡ chosen accept xs
chosen_no accept x xs e = ap (λ b. cond b (x ∷ chosen accept xs) (chosen accept xs)) (sym e)

module _ {G T : Type 0} (post : G → Bor (List ℕ) → Bool → Type 0) (takes : T → File → Result (Unit {0}) PackageFault → T → Type 0) (own : PackageFault → Type 0) where
  abbrev FilteredTakes : Filtered G T → File → Result (Unit {0}) PackageFault → Filtered G T → Type 0
  FilteredTakes a file r b = Passes (post a.filter.now) takes file a.taker.now r b.taker.now × (b.taker.ghost_name ≡ a.taker.ghost_name) × (b.filter ≡ a.filter)

  -- the taker behind took some of the files
  pub filtered_some : (a b : Filtered G T) (all : List File) (r : Result (Unit {0}) PackageFault) → Walks FilteredTakes own a all r b
      → (b.taker.ghost_name ≡ a.taker.ghost_name) × ((files : List File) × Walks takes own a.taker.now files r b.taker.now)
  filtered_some a b [] (Ok done) w = (ap (λ (l : Filtered G T). l.taker.ghost_name) (sym w), ([], ap (λ (l : Filtered G T). l.taker.now) w))
  filtered_some a b [] (Err e) w = (ap (λ (l : Filtered G T). l.taker.ghost_name) (sym w.1), ([], (w.0, ap (λ (l : Filtered G T). l.taker.now) w.1)))
  filtered_some a b (x ∷ xs) r (inl (s, (inl (said, call), name, same), more)) =
      let k = filtered_some s b xs r more in
      (k.0 ∙ name, (x ∷ k.1.0, inl (s.taker.now, call, k.1.1)))
  filtered_some a b (x ∷ xs) r (inl (s, (inr (said, done, kept), name, same), more)) =
      let k = filtered_some s b xs r more in
      (k.0 ∙ name, (k.1.0, subst (λ t. Walks takes own t k.1.0 r b.taker.now) kept k.1.1))
  filtered_some a b (x ∷ xs) r (inr (e, err, inl (inl (said, call), name, same))) = (name, (x ∷ [], inr (e, err, inl call)))
  filtered_some a b (x ∷ xs) r (inr (e, err, inl (inr (said, done, kept), name, same))) = absurd (cc)
  filtered_some a b (x ∷ xs) r (inr (e, err, inr (h, same))) =
      (ap (λ (l : Filtered G T). l.taker.ghost_name) (sym same), (x ∷ [], inr (e, err, inr (h, ap (λ (l : Filtered G T). l.taker.now) same))))

  module _ (g : G) (accept : List ℕ → Bool) (fixed : (p : Bor (List ℕ)) (b : Bool) → post g p b → b ≡ accept p.now) where
    says : (f : G) (path : List ℕ) (b : Bool) → f ≡ g → Says (post f) path b → b ≡ accept path
    says f path b e (p, is, q) = fixed p b (subst (λ h. post h p b) e q) ∙ ap accept is

    -- the taker behind took those that the test accepts
    pub filtered_walk : (a b : Filtered G T) (all : List File) (r : Result (Unit {0}) PackageFault) → a.filter.now ≡ g → Walks FilteredTakes own a all r b → Walks takes own a.taker.now (chosen accept all) r b.taker.now
    filtered_walk a b [] (Ok done) is w = ap (λ (l : Filtered G T). l.taker.now) w
    filtered_walk a b [] (Err e) is w = (w.0, ap (λ (l : Filtered G T). l.taker.now) w.1)
    filtered_walk a b (x ∷ xs) r is (inl (s, (inl (said, call), name, same), more)) =
        one_more takes own _ x (chosen accept xs) a.taker.now s.taker.now b.taker.now r (chosen_yes accept x xs (says a.filter.now x.0 true is said)) call
        (filtered_walk s b xs r (ap (λ p. p.now) same ∙ is) more)
    filtered_walk a b (x ∷ xs) r is (inl (s, (inr (said, done, kept), name, same), more)) =
        subst (λ fs. Walks takes own a.taker.now fs r b.taker.now) (sym (chosen_no accept x xs (says a.filter.now x.0 false is said)))
        (subst (λ t. Walks takes own t (chosen accept xs) r b.taker.now) kept (filtered_walk s b xs r (ap (λ p. p.now) same ∙ is) more))
    filtered_walk a b (x ∷ xs) r is (inr (e, err, inl (inl (said, call), name, same))) =
        subst (λ q. Walks takes own a.taker.now (chosen accept (x ∷ xs)) q b.taker.now) (sym err)
        (refused_at takes own _ x (chosen accept xs) a.taker.now b.taker.now e (chosen_yes accept x xs (says a.filter.now x.0 true is said)) call)
    filtered_walk a b (x ∷ xs) r is (inr (e, err, inl (inr (said, done, kept), name, same))) = absurd (cc)
    filtered_walk a b (x ∷ xs) r is (inr (e, err, inr (h, same))) =
        subst (λ q. Walks takes own a.taker.now (chosen accept (x ∷ xs)) q b.taker.now) (sym err)
        (subst (λ t. Walks takes own a.taker.now (chosen accept (x ∷ xs)) (Err e) t) (ap (λ (l : Filtered G T). l.taker.now) same)
        (ended_by takes own (chosen accept (x ∷ xs)) a.taker.now e h))
