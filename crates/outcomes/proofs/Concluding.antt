-- From verdict 7 on: what is answered, and what is left of memory and buffer. Assumes nothing.
use Rattle.std.specs.Prelude.{Err}
use mathlib.Core.Path.{◌≡◌, refl, sym, ap, ap₂, ◌∙◌, subst}
use mathlib.Core.Bool.{Bool, true, false, cond, ◌&&◌}
use mathlib.Core.List.{List, [], ◌∷◌, ◌++◌}
use mathlib.Core.Option.{Option, none, some}
use Prim.Native.Nat.{ℕ, ◌+◌, ◌*◌, ◌%◌, ◌^◌, ◌≤◌, ◌<◌}
use lib.Dec.{ltb}
use lib.ListN.{length, drop}
use borrow.Author.Tests.{lt-ltb, le-ltb}
use Rattle.window.specs.Window.{window_ok, in_window}
use Rattle.endian.proofs.Order.{absurdly}
use Rattle.window.proofs.Windows.{byte-is}
use Rattle.writes.specs.Elements.{Element, written, steps_of, first_overlap}
use Rattle.elements.specs.Machine.{Machine}
use Rattle.verdicts.specs.Verdicts.{patch_of, first_outside, found, fault_of, overlap_of, done_of, verdict_of, Verdict, done}
use Rattle.checks.specs.Checking.{concluded, Passed}
use Rattle.verdicts.specs.declared.Flags.{Flags}
use Rattle.verdicts.specs.declared.Refusal.{Refusal}
use Rattle.verdicts.specs.declared.Refusal.TheVariants.{Fault, Overlap, NoRoom}
use Rattle.outcomes.specs.Storing.{memory_after, buffer_after, Stored}
use Rattle.outcomes.specs.Steps.{StoredUnder, StoredOf}

-- the first outside isn't in the window
pub is-outside : (W L : ℕ) (es : List Element) (x : Element) → first_outside W L es ≡ some x
    → in_window W L x.address (length x.bytes) ≡ false
unfolding first_outside
is-outside W L [] x q = absurdly cc
is-outside W L (y ∷ es) x q = go (in_window W L y.address (length y.bytes)) refl q (is-outside W L es x)
  where
    go : (b : Bool) → in_window W L y.address (length y.bytes) ≡ b → cond b (first_outside W L es) (some y) ≡ some x
        → (first_outside W L es ≡ some x → in_window W L x.address (length x.bytes) ≡ false)
        → in_window W L x.address (length x.bytes) ≡ false
    go true i p f = f p
    go false i p f = let e : y ≡ x = cc in subst (λ (z : Element). in_window W L z.address (length z.bytes) ≡ false) e i

module _ (W size : ℕ) (mem buffer : List ℕ) (es : List Element) where
  -- by what the search found and whether there is room
  abbrev by : Option Element → Bool → Verdict
  by o short = cond (found o) (Err (fault_of W (length mem) o)) (cond short (Err NoRoom) (done_of es size))

  abbrev short : Bool
  short = ltb (length buffer) (length (patch_of es))

  -- an element of a 64-bit address, named by the first of its bytes that isn't in the window
  pub stored-fault : window_ok W (length mem) ≡ true → (e a : ℕ) (x : Element) → first_outside W (length mem) es ≡ some x → e ≡ x.number
      → x.address < 2 ^ 64 → a ≡ cond (in_window W (length mem) x.address 1) ((W + length mem) % 2 ^ 64) x.address
      → StoredOf W size mem buffer es (Err (Fault e a)) mem buffer
  stored-fault ok e a x q en small ea =
      let b = ea ∙ byte-is W (length mem) x.address (length x.bytes) ok small (is-outside W (length mem) es x q) in
      record {
        answer = ap Err (ap₂ Fault en b) ∙ sym (ap (λ (o : Option Element). by o short) q);
        memory = refl;
        patch = refl;
      }

  module _ (q : first_outside W (length mem) es ≡ none) where
    past-7 : concluded false W (length mem) (length buffer) size es ≡ by none short
    past-7 = ap (λ (o : Option Element). by o short) q

    pub stored_short : length buffer < length (patch_of es) → StoredOf W size mem buffer es (Err NoRoom) mem buffer
    stored_short h =
        record {
          answer = sym (past-7 ∙ ap (by none) (lt-ltb (length buffer) (length (patch_of es)) h));
          memory = refl;
          patch = refl;
        }

    pub stored-done : (n b k s : ℕ) (mem' buffer' : List ℕ) → n ≡ length es → b ≡ length es * size → k ≡ length (patch_of es)
        → s ≡ steps_of es → length (patch_of es) ≤ length buffer → mem' ≡ written W mem es
        → buffer' ≡ patch_of es ++ drop (length (patch_of es)) buffer
        → StoredOf W size mem buffer es (done n b k s) mem' buffer'
    stored-done n b k s mem' buffer' en eb ek es' h em eo =
        record {
          answer = (λ i. done (en i) (eb i) (ek i) (es' i))
              ∙ sym (past-7 ∙ ap (by none) (le-ltb (length buffer) (length (patch_of es)) h));
          memory = em;
          patch = eo;
        }

-- ---- strict or not

-- by what the two searches found
abbrev among : ℕ → ℕ → List ℕ → List ℕ → List Element → Bool → Option Element → Option Element → Verdict
among W size mem buffer es t o p =
    cond (found o) (Err (fault_of W (length mem) o))
    (cond (t && found p) (Err (overlap_of p)) (cond (ltb (length buffer) (length (patch_of es))) (Err NoRoom) (done_of es size)))

module _ {W size : ℕ} {mem buffer : List ℕ} {es : List Element} where
  -- a fault comes first, and where no two elements share a byte, or strict is off, 12 isn't given
  module _ (strict : Bool) {v : Verdict} {mem' buffer' : List ℕ} (s : StoredOf W size mem buffer es v mem' buffer') where
    pub under-fault : (x : Element) → first_outside W (length mem) es ≡ some x → StoredUnder strict W size mem buffer es v mem' buffer'
    under-fault x q =
        let f : (t : Bool) → concluded t W (length mem) (length buffer) size es ≡ Err (fault_of W (length mem) (some x)) =
        λ t. ap (λ (o : Option Element). among W size mem buffer es t o (first_overlap es)) q in
        record { answer = s.answer ∙ f false ∙ sym (f strict); memory = s.memory; patch = s.patch }

    pub under-clear : first_overlap es ≡ none → StoredUnder strict W size mem buffer es v mem' buffer'
    under-clear q =
        let f : (t : Bool)
        → concluded t W (length mem) (length buffer) size es ≡ among W size mem buffer es t (first_outside W (length mem) es) none =
        λ t. ap (among W size mem buffer es t (first_outside W (length mem) es)) q in
        record {
          answer = s.answer ∙ f false ∙ go strict (first_outside W (length mem) es) ∙ sym (f strict);
          memory = s.memory;
          patch = s.patch;
        }
      where
        go : (t : Bool) (o : Option Element) → among W size mem buffer es false o none ≡ among W size mem buffer es t o none
        go true o = refl
        go false o = refl

    pub under-off : strict ≡ false → StoredUnder strict W size mem buffer es v mem' buffer'
    under-off q = subst (λ (t : Bool). StoredUnder t W size mem buffer es v mem' buffer') (sym q) s

  -- 12: all lie in the window, and strict is on
  pub stored-overlap : (strict : Bool) → strict ≡ true → first_outside W (length mem) es ≡ none → (e a : ℕ) (x : Element)
      → first_overlap es ≡ some x → e ≡ x.number → a ≡ x.address
      → StoredUnder strict W size mem buffer es (Err (Overlap e a)) mem buffer
  stored-overlap strict t n e a x q en ea =
      record {
        answer = ap Err (ap₂ Overlap en ea) ∙ sym (λ i. among W size mem buffer es (t i) (n i) (q i));
        memory = refl;
        patch = refl;
      }

-- the same of an equal list
pub stored-listed : {t : Bool} {W size : ℕ} {mem buffer : List ℕ} {es es' : List Element} {v : Verdict} {mem' buffer' : List ℕ} → es ≡ es'
    → StoredUnder t W size mem buffer es v mem' buffer' → StoredUnder t W size mem buffer es' v mem' buffer'
stored-listed {t} {W} {size} {mem} {buffer} {es} {es'} {v} {mem'} {buffer'} e s =
    subst (λ (l : List Element). StoredUnder t W size mem buffer l v mem' buffer') e s

-- ---- the whole call

module _ (f : Flags) (m : Machine) (W : ℕ) (mem : List ℕ) (word : ℕ) (buffer : List ℕ) where
  pub stored_refused : (r : Refusal) → ((room : ℕ) → verdict_of f m W (length mem) word room ≡ Err r)
      → Stored f m W mem word buffer (Err r) mem buffer
  stored_refused r h = record { answer = sym (h (length buffer)); memory = refl; patch = refl }

  pub stored-passed : (es : List Element) (size : ℕ) (v : Verdict) (mem' buffer' : List ℕ) → Passed f m W (length mem) word es size
      → StoredUnder f.strict W size mem buffer es v mem' buffer' → Stored f m W mem word buffer v mem' buffer'
  stored-passed es size v mem' buffer' p s =
      record {
        answer = s.answer ∙ sym (p.verdict (length buffer));
        memory = s.memory ∙ ap (memory_after v W mem) (sym p.listed);
        patch = s.patch ∙ ap (λ (l : List Element). buffer_after v (patch_of l) buffer) (sym p.listed);
      }
