-- `runs_of`: by whether elements lie side by side. No loop. Assumes nothing.
use mathlib.Core.Bool.{Bool, cond}
use mathlib.Core.Path.{sym, ap}
use Prim.Native.Nat.{◌*◌}
use borrow.Author.Tests.{eq-eqb, ne_eqb}
use Rattle.strided.specs.Runs.{run_count, run_size}
use Rattle.strided.proofs.runs_of.Goals as goal

pub returns-then-s : goal.returns-then-s
unfolding run_count run_size
returns-then-s c =
    let a = c.args in
    let e = eq-eqb a.s.gap a.s.size c.if-s.true in (
      sym (ap (λ (t : Bool). cond t 1 a.n) e),
      sym (ap (λ (t : Bool). cond t (a.n * a.s.size) a.s.size) e),
    )

pub returns : goal.returns
unfolding run_count run_size
returns c =
    let a = c.args in
    let e = ne_eqb a.s.gap a.s.size c.if-s.false in (
      sym (ap (λ (t : Bool). cond t 1 a.n) e),
      sym (ap (λ (t : Bool). cond t (a.n * a.s.size) a.s.size) e),
    )
