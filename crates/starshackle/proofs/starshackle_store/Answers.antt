-- `starshackle_store`: what the merged call answers, as numbers. Assumes nothing.
use mathlib.Core.Path.{◌≡◌, subst}
use Rattle.verdicts.specs.declared.Flags.{Flags}
use Rattle.outcomes.specs.Storing.{Stored}
use Rattle.starshackle.proofs.starshackle_store.Goals as goal

-- by the flags that the bits are
on-flags : {f g : Flags} {m : _} {W : _} {mem : _} {word : _} {buffer : _} {v : _} {mem' buffer' : _} → f ≡ g
    → Stored f m W mem word buffer v mem' buffer' → Stored g m W mem word buffer v mem' buffer'
on-flags {f} {g} {m} {W} {mem} {word} {buffer} {v} {mem'} {buffer'} e s =
    subst (λ (h : Flags). Stored h m W mem word buffer v mem' buffer') e s

pub returns : goal.returns
returns c =
    record {
      answer = c.store-v.result;
      holds = on-flags c.flags_of.ensures c.store-v.ensures;
      its_number = c.answered.ensures.value;
      its_numbers = c.answered.ensures.answer_after;
    }
