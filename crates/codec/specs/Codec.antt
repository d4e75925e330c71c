-- A decoded store as eight numbers at the interface, and the store that eight numbers give. Assumes nothing.
use Rattle.std.specs.Prelude.{ℕ, Bool, cond, not, ◌||◌, List, [], ◌∷◌, ◌==◌, nat_lt, slice_index, Option, Some, None}
use Rattle.std.specs.Int.{w64}
use Rattle.std.proofs.Common.{to_z}
use Rattle.encoding.specs.declared.Feature.{Feature}
use Rattle.encoding.specs.declared.Feature.TheVariants.{SVE, SME2, SVE2p1}
use Rattle.encoding.specs.Encoding.{class_numbered, encode_of}
use Rattle.encoding.specs.Answers.{encoded_word}
use Rattle.encoding.specs.declared.Extension.{Extension}
use Rattle.encoding.specs.declared.Extension.TheVariants.{Uxtw, Sxtw}
use Rattle.encoding.specs.declared.Store.{Store}
use Rattle.encoding.specs.declared.Store.TheVariants.{Scatter, Strided, Quadword}

abbrev pub entry : List ℕ → ℕ → ℕ
entry es i = slice_index es i

-- entry 2: 0 none, 1 UXTW, 2 SXTW
abbrev pub extension_given : ℕ → Option Extension
extension_given n = cond (n == 0) None (cond (n == 1) (Some Uxtw) (Some Sxtw))

-- the store that the entries name, in the case of its class's feature. `to_z w64 n` is n's 64 bits read as signed
abbrev pub store_given : Feature → List ℕ → Store
store_given SVE es =
    Scatter
    (record {
      class = entry es 0;
      zm = entry es 1;
      extension = extension_given (entry es 2);
      pg = entry es 3;
      rn = entry es 4;
      zt = entry es 5;
    })
store_given SME2 es =
    Strided
    (record {
      class = entry es 0;
      rm = entry es 1;
      multiple = to_z w64 (entry es 6);
      pc = entry es 3;
      rn = entry es 4;
      first = entry es 5;
    })
store_given SVE2p1 es =
    Quadword (record { class = entry es 0; rm = entry es 1; pg = entry es 3; zn = entry es 4; zt = entry es 5 })

-- an entry other than 0 that such a store doesn't have: the multiple, the extension, or both
abbrev pub surplus : Feature → List ℕ → Bool
surplus SVE es = not (entry es 6 == 0)
surplus SME2 es = not (entry es 2 == 0)
surplus SVE2p1 es = not (entry es 2 == 0) || not (entry es 6 == 0)

-- entries that give no store: such an entry, an entry 7 other than 0, an extension above 2
abbrev pub misgiven : Feature → List ℕ → Bool
misgiven x es = not (entry es 7 == 0) || nat_lt 2 (entry es 2) || surplus x es

-- the feature of the class that entry 0 numbers
abbrev pub feature_given : List ℕ → Feature
feature_given es = (class_numbered (entry es 0)).feature

-- what encoding eight entries answers: None, which is 11, for these, and for whatever document 01 refuses
unfoldable pub encode_given : List ℕ → Option ℕ
encode_given es = cond (misgiven (feature_given es) es) None (encode_of (store_given (feature_given es) es))

-- five answers: the word is the last, and the others are 0
abbrev pub encoded_answers : Option ℕ → List ℕ
encoded_answers e = 0 ∷ 0 ∷ 0 ∷ 0 ∷ encoded_word e ∷ []
