-- Each item of a batch can be read back from its parts, so that batches have codes.
use Rattle.std.specs.Prelude.{◌≡◌, ℕ, ◌==◌, if◌then◌else◌, List, [], refl}
use Rattle.std.specs.Coded.{Coded, code_by, coded×, coded_ℕ, coded_list}
use Rattle.ty_model.specs.Values.{Project, Id, Answer, Content}
use Rattle.ty_model.specs.Batch.{Item, MapPath, UnmapPath, MapId, UnmapId, Clear, ChangeSet, ChangeView}
use Rattle.ty_model.specs.Codes.{text_code, texts_code, id_code, answer_code}

-- the parts that an item may have, under the number of its case
pub record ItemKey : Type 0 where
  pub kind : ℕ
  pub path : List ℕ
  pub id : Id
  pub answer : Answer
  pub removes : List (List ℕ)
  pub inserts : List (List ℕ × Answer)

-- no parts, under a number
abbrev pub bare_key : ℕ → ItemKey
bare_key kind = record { kind = kind; path = []; id = record { root = Project; vpath = []; tag = 0 }; answer = Content []; removes = []; inserts = [] }

-- an item as its parts
abbrev pub item_key : Item → ItemKey
item_key (MapPath path answer) = record (bare_key 0) { path = path; answer = answer }
item_key (UnmapPath path) = record (bare_key 1) { path = path }
item_key (MapId id answer) = record (bare_key 2) { id = id; answer = answer }
item_key (UnmapId id) = record (bare_key 3) { id = id }
item_key Clear = bare_key 4
item_key (ChangeSet removes inserts) = record (bare_key 5) { removes = removes; inserts = inserts }
item_key ChangeView = bare_key 6

-- an item, from its parts
abbrev pub item_from : ItemKey → Item
item_from k =
    if k.kind == 0 then MapPath k.path k.answer
    else if k.kind == 1 then UnmapPath k.path
    else if k.kind == 2 then MapId k.id k.answer
    else if k.kind == 3 then UnmapId k.id
    else if k.kind == 4 then Clear
    else if k.kind == 5 then ChangeSet k.removes k.inserts
    else ChangeView

-- its parts give it back
pub item_back : (item : Item) → item_from (item_key item) ≡ item
item_back (MapPath path answer) = refl
item_back (UnmapPath path) = refl
item_back (MapId id answer) = refl
item_back (UnmapId id) = refl
item_back Clear = refl
item_back (ChangeSet removes inserts) = refl
item_back ChangeView = refl

-- the parts have codes
abbrev pub item_key_code : Coded ItemKey
item_key_code = code_by (ℕ × (List ℕ × (Id × (Answer × (List (List ℕ) × List (List ℕ × Answer))))))
    (coded× coded_ℕ (coded× text_code (coded× id_code (coded× answer_code (coded× texts_code (coded_list (coded× text_code answer_code)))))))
    (λ k. (k.kind, (k.path, (k.id, (k.answer, (k.removes, k.inserts))))))
    (λ p. record { kind = p.0; path = p.1.0; id = p.1.1.0; answer = p.1.1.1.0; removes = p.1.1.1.1.0; inserts = p.1.1.1.1.1 })
    (λ _. refl)

-- batches have codes
abbrev pub batch_code : Coded (List Item)
batch_code = coded_list (code_by ItemKey item_key_code item_key item_from item_back)
