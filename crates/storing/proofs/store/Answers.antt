-- `store`: by what checks 1 to 6 answered. Assumes nothing.
use Rattle.std.specs.Prelude.{Ok}
use Rattle.std.proofs.lemmas.Result.{err_from_is_err_and}
use mathlib.Core.Path.{◌≡◌, ap, ◌∙◌}
use lib.ListN.{length}
use Rattle.elements.specs.Machine.{Machine, lent}
use Rattle.elements.specs.Accesses.{VectorSound, StridedSound, strided_elements}
use Rattle.elements.specs.declared.VectorAccess.{VectorAccess}
use Rattle.elements.specs.declared.StridedAccess.{StridedAccess}
use Rattle.checks.specs.Checking.{vectors_in, Passed}
use Rattle.checks.specs.declared.Access.{Access}
use Rattle.checks.specs.declared.Access.TheVariants as A
use Rattle.checks.proofs.Checking.{refused-told, vector-told, strided-told}
use Rattle.accesses.proofs.Apart.{strided-no-overlap}
use Rattle.outcomes.proofs.Concluding.{stored_refused, stored-passed, under-clear}
use Rattle.storing.proofs.store.Goals as goal
use Rattle.storing.proofs.store.Goals.{After-check}

abbrev m : (k : After-check) → Machine
m k = lent k.args.machine

vector : (k : After-check) → (v : VectorAccess) → k.check.result ≡ Ok (A.Vector v)
    → VectorSound v k.args.machine.vb
    × Passed k.args.flags (m k) k.args.base (length k.args.memory.now) k.args.word
    (vectors_in v k.args.machine.vb k.args.machine.z.now k.args.machine.p.now) v.size
vector k v q =
    vector-told k.args.flags (m k) k.args.base (length k.args.memory.now) k.args.word k.check.result v
    k.check.ensures q

strided : (k : After-check) → (s : StridedAccess) → k.check.result ≡ Ok (A.Strided s)
    → StridedSound s k.args.machine.vb
    × Passed k.args.flags (m k) k.args.base (length k.args.memory.now) k.args.word
    (strided_elements s k.args.machine.vb k.args.machine.z.now) s.size
strided k s q =
    strided-told k.args.flags (m k) k.args.base (length k.args.memory.now) k.args.word k.check.result s
    k.check.ensures q

pub store_vector-requires : goal.store_vector-requires
store_vector-requires c =
    let t = vector (goal.at.store_vector-requires c).After-check _ (c.in_ok-v.was ∙ ap (λ (a : Access). Ok a) c.in-Vector.is) in
    record { vector_sound = t.0; sound = t.1.registers; memory_value = t.1.window }

pub store_strided-requires : goal.store_strided-requires
store_strided-requires c =
    let t = strided (goal.at.store_strided-requires c).After-check _ (c.in_ok-v.was ∙ ap (λ (a : Access). Ok a) c.in-Strided.is) in
    record { strided_sound = t.0; z_len = t.1.registers.long_z; memory_value = t.1.window }

pub returns-in_err-v : goal.returns-in_err-v
returns-in_err-v c =
    let g = c.args in
    let p = err_from_is_err_and c.from_residual.result c.from_residual.ensures.1 in
    rw (p.1, p.2)
    (stored_refused g.flags (m (goal.at.returns-in_err-v c).After-check) g.base g.memory.now g.word g.patch.now _
    (refused-told g.flags (m (goal.at.returns-in_err-v c).After-check) g.base (length g.memory.now) g.word c.check.result _ c.check.ensures
    c.in_err-v.was))

pub returns-in-Vector : goal.returns-in-Vector
returns-in-Vector c =
    let g = c.args in
    stored-passed g.flags (m (goal.at.returns-in-Vector c).After-check) g.base g.memory.now g.word g.patch.now _ _ _ _ _ (vector (goal.at.returns-in-Vector c).After-check _ (c.in_ok-v.was ∙ ap (λ (a : Access). Ok a) c.in-Vector.is)).1
    c.store_vector.ensures

pub returns-in-Strided : goal.returns-in-Strided
returns-in-Strided c =
    let g = c.args in
    stored-passed g.flags (m (goal.at.returns-in-Strided c).After-check) g.base g.memory.now g.word g.patch.now _ _ _ _ _ (strided (goal.at.returns-in-Strided c).After-check _ (c.in_ok-v.was ∙ ap (λ (a : Access). Ok a) c.in-Strided.is)).1
    (under-clear g.flags.strict c.store_strided.ensures
    (strided-no-overlap _ g.machine.vb (strided (goal.at.returns-in-Strided c).After-check _ (c.in_ok-v.was ∙ ap (λ (a : Access). Ok a) c.in-Strided.is)).0 g.machine.z.now))
