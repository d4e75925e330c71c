-- `inspect_store`: the element of the store's access, by its case. Assumes nothing.
use mathlib.Core.Bool.{false}
use mathlib.Core.Path.{◌≡◌, sym, ap, ap₂, ◌∙◌, subst}
use Prim.Native.Nat.{ℕ}
use Rattle.endian.proofs.LittleEndian.{bytes-at}
use Rattle.encoding.specs.Encoding.{class_for, feature_of, refused}
use Rattle.encoding.specs.declared.Store.{Store}
use Rattle.encoding.specs.declared.Store.TheVariants.{Scatter, Strided, Quadword}
use Rattle.elements.specs.Machine.{Machine, lent}
use Rattle.elements.specs.Accesses.{strided_of, strided_access, VectorSound, StridedSound}
use Rattle.elements.specs.declared.VectorAccess.{VectorAccess}
use Rattle.elements.specs.declared.StridedAccess.{StridedAccess}
use Rattle.elements.proofs.Shapes.{scatter-in, quadword-in, strided-in}
use Rattle.accesses.proofs.Soundness.{scatter-sound, quadword-sound, strided-sound}
use Rattle.inspection.specs.Inspection.{inspected_at}
use Rattle.inspection.specs.Steps.{vector_inspected, strided_inspected}
use Rattle.inspection.specs.declared.Inspected.{Inspected}
use Rattle.inspection.proofs.Inspecting.{scatter-inspected, quadword-inspected, strided-inspected}
use Rattle.inspection.proofs.inspect_store.Goals as goal
use Rattle.inspection.proofs.inspect_store.Goals.{After-strided_access, Start}

-- the machine lent
abbrev m : (a : Start) → Machine
m a = lent a.args.machine

-- the store, by its case
ok : (a : Start) → (s : Store) → a.args.store ≡ s → refused s ≡ false
ok a s e = ap refused (sym e) ∙ a.requires.store_value.0

-- what an access that is the store's asks and answers
vector-asks : (vb : ℕ) (v w : VectorAccess) → v ≡ w → VectorSound w vb → VectorSound v vb
vector-asks vb v w e s = subst (λ (y : VectorAccess). VectorSound y vb) (sym e) s

vector-answers : (a : Start) → (r : Inspected) (v w : VectorAccess) (s : Store) → a.args.store ≡ s
    → r ≡ vector_inspected v a.args.machine.vb a.args.machine.z.now a.args.machine.p.now a.args.e → v ≡ w
    → vector_inspected w a.args.machine.vb a.args.machine.z.now a.args.machine.p.now a.args.e ≡ inspected_at (m a) s a.args.e
    → r ≡ inspected_at (m a) a.args.store a.args.e
vector-answers a r v w s e q i t =
    q
    ∙ ap (λ (y : VectorAccess). vector_inspected y a.args.machine.vb a.args.machine.z.now a.args.machine.p.now a.args.e) i
    ∙ t
    ∙ ap (λ (y : Store). inspected_at (m a) y a.args.e) (sym e)

pub scatter_access-requires : goal.scatter_access-requires
scatter_access-requires c =
    (ok (goal.at.scatter_access-requires c).Start _ c.in-Scatter.is, c.requires.sound.high)

pub inspect_vector-requires : goal.inspect_vector-requires
inspect_vector-requires c =
    let f = c.in-Scatter.f in
    let s = scatter-in f (ok (goal.at.inspect_vector-requires c).Start (Scatter f) c.in-Scatter.is) in
    record { vector_sound = vector-asks c.args.machine.vb _ _ c.scatter_access.ensures (scatter-sound (m (goal.at.inspect_vector-requires c).Start) c.requires.sound.low c.requires.sound.high c.requires.sound.sixteen f s); z_len = (c.requires.sound.long_z, c.requires.sound.long_p) }

pub start_of-start-requires : goal.start_of-start-requires
start_of-start-requires c = (ok (goal.at.start_of-start-requires c).Start _ c.in-Strided.is, c.requires.sound.high)

pub range_for-range-requires : goal.range_for-range-requires
range_for-range-requires c =
    record {
      f_value = ok (goal.at.range_for-range-requires c).Start _ c.in-Strided.is;
      le_vb = (c.requires.sound.low, c.requires.sound.high, c.requires.sound.long_p, c.requires.store_value.1 (ap feature_of c.in-Strided.is));
    }

pub strided_access-requires : goal.strided_access-requires
strided_access-requires c = ok (goal.at.strided_access-requires c).Start _ c.in-Strided.is

-- the access is the store's
accessed : (c : After-strided_access)
    → let f = c.in-Strided.f in
    let a = c.args in
    c.strided_access.result ≡ strided_access (lent a.machine) (class_for (Strided f)) f
accessed c =
    let f = c.in-Strided.f in
    c.strided_access.ensures ∙ ap₂ (strided_of (class_for (Strided f)) f) c.start_of-start.ensures c.range_for-range.ensures

pub inspect_strided-requires : goal.inspect_strided-requires
inspect_strided-requires c =
    let f = c.in-Strided.f in
    let s = strided-in f (ok (goal.at.inspect_strided-requires c).Start (Strided f) c.in-Strided.is) in
    subst (λ (v : StridedAccess). StridedSound v c.args.machine.vb) (sym (accessed (goal.at.inspect_strided-requires c).After-strided_access))
    (strided-sound (m (goal.at.inspect_strided-requires c).Start) c.requires.sound.low c.requires.sound.high c.requires.sound.sixteen f s)

pub quadword_access-requires : goal.quadword_access-requires
quadword_access-requires c =
    (ok (goal.at.quadword_access-requires c).Start _ c.in-Quadword.is, c.requires.sound.high)

pub inspect_vector-requires-in-Quadword : goal.inspect_vector-requires-in-Quadword
inspect_vector-requires-in-Quadword c =
    let f = c.in-Quadword.f in
    let s = quadword-in f (ok (goal.at.inspect_vector-requires-in-Quadword c).Start (Quadword f) c.in-Quadword.is) in
    record { vector_sound = vector-asks c.args.machine.vb _ _ c.quadword_access.ensures (quadword-sound (m (goal.at.inspect_vector-requires-in-Quadword c).Start) c.requires.sound.low c.requires.sound.high c.requires.sound.sixteen f s); z_len = (c.requires.sound.long_z, c.requires.sound.long_p) }

pub returns-in-Scatter : goal.returns-in-Scatter
returns-in-Scatter c =
    let f = c.in-Scatter.f in
    let s = scatter-in f (ok (goal.at.returns-in-Scatter c).Start (Scatter f) c.in-Scatter.is) in
    vector-answers (goal.at.returns-in-Scatter c).Start _ _ _ (Scatter f) c.in-Scatter.is c.inspect_vector.ensures c.scatter_access.ensures
    (scatter-inspected (m (goal.at.returns-in-Scatter c).Start) c.args.e f s (bytes-at c.args.machine.z.now c.args.machine.bytes))

pub returns-in-Strided : goal.returns-in-Strided
returns-in-Strided c =
    let f = c.in-Strided.f in
    let s = strided-in f (ok (goal.at.returns-in-Strided c).Start (Strided f) c.in-Strided.is) in
    c.inspect_strided.ensures
    ∙ ap (λ (v : StridedAccess). strided_inspected v c.args.machine.vb c.args.e) (accessed (goal.at.returns-in-Strided c).After-strided_access)
    ∙ strided-inspected (m (goal.at.returns-in-Strided c).Start) c.args.e f s c.requires.sound.low c.requires.sound.sixteen
    ∙ ap (λ (y : Store). inspected_at (m (goal.at.returns-in-Strided c).Start) y c.args.e) (sym c.in-Strided.is)

pub returns-in-Quadword : goal.returns-in-Quadword
returns-in-Quadword c =
    let f = c.in-Quadword.f in
    let s = quadword-in f (ok (goal.at.returns-in-Quadword c).Start (Quadword f) c.in-Quadword.is) in
    vector-answers (goal.at.returns-in-Quadword c).Start _ _ _ (Quadword f) c.in-Quadword.is c.inspect_vector-in-Quadword.ensures c.quadword_access.ensures
    (quadword-inspected (m (goal.at.returns-in-Quadword c).Start) c.args.e f s)
