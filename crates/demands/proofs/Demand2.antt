-- Demand 2. Assumes nothing.
use Rattle.std.specs.Prelude.{Ok, Err}
use mathlib.Core.Path.{◌≡◌, refl}
use mathlib.Core.List.{[], ◌∷◌}
use Rattle.encoding.specs.Classes.{classes}
use Rattle.encoding.proofs.Statements.{decodes-its-class, undefined-outside, one-class-only, scatter_widths, strided_widths}
use Rattle.encoding.proofs.Statements.{refused-for-a-cause, encodes_decoded, decodes_encoded}
use Rattle.encoding.proofs.Numbers.{numbers_from_bits}
use Rattle.codec.proofs.Statements.{encodes_decoded_numbers, decodes_encoded_numbers, refuses-numbers}
use Rattle.verdicts.specs.Verdicts.{number, Verdict}
use Rattle.verdicts.specs.declared.Refusal.TheVariants.{Length, Registers, Window, Undefined, Illegal, Stack, Fault, Overlap, NoRoom}
use Rattle.verdicts.proofs.Statements.{table-numbered, table-in-order, table-given-when}
use Rattle.outcomes.specs.Storing.{numbers}
use Rattle.demands.specs.Demand2.{StoringReturns, Demand2}
use Rattle.demands.proofs.Sources.{element_bytes}
use Rattle.demands.proofs.Storing.{lists-the-active, in-ascending-order, byte_by_byte, counts-of-done}
use Rattle.demands.proofs.Storing.{storing-decided, fault-given, fault-names-the-lowest}
use Rattle.demands.proofs.Strict.{overlap-given, overlap-names-the-lowest}
use Rattle.demands.proofs.Applying.{applying-decided, outside-names-the-lowest}

storing_returns : StoringReturns
storing_returns = ((λ n b k t. refl), (λ e a. refl), (λ e a. refl), (λ v p q r. zeros v p q r))
  where
    zeros : (v : Verdict) → (number v ≡ 0 → ⊥) → (number v ≡ 7 → ⊥) → (number v ≡ 12 → ⊥) → numbers v ≡ 0 ∷ 0 ∷ 0 ∷ 0 ∷ 0 ∷ 0 ∷ []
    zeros (Ok d) p q r = absurd (p refl)
    zeros (Err Length) p q r = refl
    zeros (Err Registers) p q r = refl
    zeros (Err Window) p q r = refl
    zeros (Err Undefined) p q r = refl
    zeros (Err Illegal) p q r = refl
    zeros (Err Stack) p q r = refl
    zeros (Err (Fault e a)) p q r = absurd (q refl)
    zeros (Err (Overlap e a)) p q r = absurd (r refl)
    zeros (Err NoRoom) p q r = refl

pub demand2 : Demand2
unfolding classes
demand2 =
    record {
      thirty_six = refl;
      scatter_widths = scatter_widths;
      strided_widths = strided_widths;
      accepts = decodes-its-class;
      no_others = undefined-outside;
      one_class = one-class-only;
      encodes_decoded = encodes_decoded;
      decodes_encoded = decodes_encoded;
      numbers_from_bits = numbers_from_bits;
      encodes_decoded_numbers = encodes_decoded_numbers;
      decodes_encoded_numbers = decodes_encoded_numbers;
      each_active = lists-the-active;
      element_bytes = element_bytes;
      ascending = in-ascending-order;
      byte_by_byte = byte_by_byte;
      counts = counts-of-done;
      numbered = table-numbered;
      in_order = table-in-order;
      given_when = table-given-when;
      storing = storing-decided;
      fault = fault-given;
      overlap = overlap-given;
      applying = applying-decided;
      encoding = refused-for-a-cause;
      encoding_numbers = refuses-numbers;
      fault_names = fault-names-the-lowest;
      overlap_names = overlap-names-the-lowest;
      outside_names = outside-names-the-lowest;
      storing_returns = storing_returns;
      applying_returns = ((λ z. refl), (λ k a. refl), refl, refl);
      judging_returns = ((λ z. (refl, refl)), (λ n. (refl, refl)));
      codec_returns = (refl, refl);
    }
