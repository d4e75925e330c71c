-- `store_vector`: keys, and all that follows from them. Assumes nothing.
use mathlib.Core.Path.{◌≡◌, sym, ap, ◌∙◌, subst}
use mathlib.Core.List.{List}
use mathlib.Core.Bool.{cond}
use Prim.Native.Nat.{ℕ, ◌+◌, ◌*◌, ◌/◌, ◌%◌, ◌^◌, ◌≤◌}
use native.Mathlib.Omega.{arith}
use lib.ListN.{length, take, drop, length-take}
use Rattle.endian.specs.LittleEndian.{Bytes}
use Rattle.window.specs.Window.{in_window}
use Rattle.writes.specs.Elements.{Element}
use Rattle.endian.proofs.LittleEndian.{bytes-at, bytes_take, bytes_drop}
use Rattle.elements.specs.Accesses.{VectorSound, vector_elements}
use Rattle.checks.specs.Checking.{vectors_in}
use Rattle.checks.proofs.Spans.{z-room, z-long, p-room, p-long}
use Rattle.gathering.specs.Gathering.{GatheredAs}
use Rattle.std.specs.Prelude.{Result, Ok}
use Rattle.verdicts.specs.declared.Outside.{Outside}
use Rattle.vectors.specs.Steps.{Ready}
use Rattle.outcomes.proofs.Concluding.{stored-fault, stored-listed, under-fault}
use Rattle.vectors.proofs.Ready.{vector-few, ready, gathered-out, gathered-keys}
use Rattle.vectors.proofs.store_vector.Goals as goal
use Rattle.vectors.proofs.store_vector.Goals.{After-register_of-stored}

pub register_of-offsets-requires : goal.register_of-offsets-requires
register_of-offsets-requires c =
    z-room c.args.vb c.args.z.now c.args.p.now c.requires.sound c.args.v.offsets c.requires.vector_sound.offsets

pub register_of-governing-requires : goal.register_of-governing-requires
register_of-governing-requires c =
    p-room c.args.vb c.args.z.now c.args.p.now c.requires.sound c.args.v.governing c.requires.vector_sound.governing

pub register_of-stored-requires : goal.register_of-stored-requires
register_of-stored-requires c =
    z-room c.args.vb c.args.z.now c.args.p.now c.requires.sound c.args.v.stored c.requires.vector_sound.stored

abbrev offsets : (r : After-register_of-stored) → List ℕ
offsets r = r.register_of-offsets.result.now

abbrev governing : (r : After-register_of-stored) → List ℕ
governing r = r.register_of-governing.result.now

abbrev stored : (r : After-register_of-stored) → List ℕ
stored r = r.register_of-stored.result.now

offsets-long : (r : After-register_of-stored) → length (offsets r) ≡ r.args.vb
offsets-long r =
    ap length r.register_of-offsets.ensures
    ∙ z-long r.args.vb r.args.z.now r.args.p.now r.requires.sound r.args.v.offsets r.requires.vector_sound.offsets

governing-long : (r : After-register_of-stored) → length (governing r) ≡ r.args.vb / 8
governing-long r =
    ap length r.register_of-governing.ensures
    ∙ p-long r.args.vb r.args.z.now r.args.p.now r.requires.sound r.args.v.governing r.requires.vector_sound.governing

stored-long : (r : After-register_of-stored) → length (stored r) ≡ r.args.vb
stored-long r =
    ap length r.register_of-stored.ensures
    ∙ z-long r.args.vb r.args.z.now r.args.p.now r.requires.sound r.args.v.stored r.requires.vector_sound.stored

stored_bytes : (r : After-register_of-stored) → Bytes (stored r)
stored_bytes r =
    let at = r.args.v.stored in
    let b = bytes-at r.args.z.now (λ i. (r.type_inv.z i).fits) in
    subst Bytes (sym r.register_of-stored.ensures)
    (bytes_take r.args.vb (drop (at * r.args.vb) r.args.z.now) (bytes_drop (at * r.args.vb) r.args.z.now b))

-- the store's elements
abbrev es : (r : After-register_of-stored) → List Element
es r = vector_elements r.args.v (offsets r) (governing r) (stored r)

es-are : (r : After-register_of-stored) → (es r) ≡ vectors_in r.args.v r.args.vb r.args.z.now r.args.p.now
es-are r =
    λ i.
    vector_elements r.args.v (r.register_of-offsets.ensures i) (r.register_of-governing.ensures i)
    (r.register_of-stored.ensures i)

sound : (r : After-register_of-stored) → VectorSound r.args.v (length (offsets r))
sound r = subst (VectorSound r.args.v) (sym (offsets-long r)) r.requires.vector_sound

pub gather_vector-requires : goal.gather_vector-requires
gather_vector-requires c =
    let r = (goal.at.gather_vector-requires c).After-register_of-stored in (
      sound r,
      governing-long r ∙ ap (λ (n : ℕ). n / 8) (sym (offsets-long r)),
      omega (arith, vector-few _ _ (sound r)),
      c.requires.memory_value,
    )

-- the keys
ready_at : (r : After-register_of-stored) (A : List ℕ) (g : Result ℕ Outside)
    → GatheredAs r.args.base (length r.args.memory.now) r.args.v.size (es r) A g → (n : ℕ) → g ≡ Ok n
    → Ready r.args.base (length r.args.memory.now) r.args.v.step r.args.v.size (stored r) (take n A) (es r)
ready_at r A g h n q =
    let a = r.args in
    let k = gathered-keys a.base (length a.memory.now) a.v.size (es r) A g h n q in
    ready a.v a.vb (offsets r) (governing r) (stored r) (take n A) a.base (length a.memory.now) r.requires.vector_sound
    (stored-long r) (stored_bytes r) r.requires.memory_value k.0 k.2

few : (r : After-register_of-stored) (A : List ℕ) (g : Result ℕ Outside)
    → GatheredAs r.args.base (length r.args.memory.now) r.args.v.size (es r) A g → (n : ℕ) → g ≡ Ok n → n ≤ length A
few r A g h n q = (gathered-keys r.args.base (length r.args.memory.now) r.args.v.size (es r) A g h n q).1

pub slice_bounds-keys-end : goal.slice_bounds-keys-end
slice_bounds-keys-end c =
    let r = (goal.at.slice_bounds-keys-end c).After-register_of-stored in
    let g = c.gather_vector in
    omega (arith, few r g.new.keys g.result (g.ensures (stored r) (stored-long r ∙ sym (offsets-long r))) _ c.in-Ok.is, g.auto.keys)

pub slice_bounds-finish-end : goal.slice_bounds-finish-end
slice_bounds-finish-end c =
    let r = (goal.at.slice_bounds-finish-end c).After-register_of-stored in
    let g = c.gather_vector in
    simp length-take (omega (arith, few r g.new.keys g.result (g.ensures (stored r) (stored-long r ∙ sym (offsets-long r))) _ c.in-Ok.is, g.auto.keys))

pub finish-requires : goal.finish-requires
finish-requires c =
    let r = (goal.at.finish-requires c).After-register_of-stored in
    let g = c.gather_vector in
    (es r, ready_at r g.new.keys g.result (g.ensures (stored r) (stored-long r ∙ sym (offsets-long r))) _ c.in-Ok.is)

pub returns-in-Err : goal.returns-in-Err
returns-in-Err c =
    let r = (goal.at.returns-in-Err c).After-register_of-stored in
    let a = c.args in
    let g = c.gather_vector in
    let W = a.base in
    let L = length a.memory.now in
    let o = gathered-out W L a.v.size (es r) g.new.keys g.result (g.ensures (stored r) (stored-long r ∙ sym (offsets-long r))) c.in-Err.outside c.in-Err.is in
    stored-listed (es-are r)
    (under-fault a.strict
    (stored-fault W a.v.size a.memory.now a.patch.now (es r) c.requires.memory_value _ _ o.0 o.1 o.2
    (omega (arith, o.3))
    (c.first_outside-address.ensures ∙ ap (λ (x : ℕ). cond (in_window W L x 1) ((W + L) % 2 ^ 64) x) o.3)) o.0 o.1)

pub returns-in-Ok : goal.returns-in-Ok
returns-in-Ok c =
    let r = (goal.at.returns-in-Ok c).After-register_of-stored in
    let g = c.gather_vector in
    stored-listed (es-are r)
    (c.finish.ensures (es r)
    (ready_at r g.new.keys g.result (g.ensures (stored r) (stored-long r ∙ sym (offsets-long r))) _ c.in-Ok.is))
