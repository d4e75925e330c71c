-- Demand 1. Assumes nothing.
use Rattle.patch.proofs.Statements.{refusal-keeps-memory}
use Rattle.demands.specs.Demand1.{Demand1}
use Rattle.demands.proofs.Storing.{store_one, numbered, store_keeps}
use Rattle.demands.proofs.Applying.{apply_one, apply_numbered}

pub demand1 : Demand1
demand1 =
    record {
      store_one = store_one;
      apply_one = apply_one;
      store_numbered = λ f m W mem word buffer v mem' buffer' c. numbered v;
      apply_numbered = λ W mem s r mem' c. apply_numbered r;
      store_keeps = store_keeps;
      apply_keeps = refusal-keeps-memory;
    }
