-- Texts in padded standard base64.
use Rattle.std.specs.Prelude.{◌≡◌, ℕ, List}
use Rattle.base64.specs.Engines.{standard}
use Rattle.base64.specs.GeneralPurpose.{encode_of, IsBytes}

-- the text is that of some bytes
abbrev pub IsTextOfBytes : List ℕ → Type 0
IsTextOfBytes text = (bytes : List ℕ) × IsBytes bytes × (text ≡ encode_of standard bytes)
