-- `inspect`: the refusals in their order. Assumes nothing.
use Rattle.std.specs.Prelude.{Some, None, Ok}
use mathlib.Core.Path.{◌≡◌, sym, ap, ◌∙◌}
use mathlib.Core.Bool.{true}
use native.Mathlib.Omega.{arith}
use Rattle.encoding.specs.Decoding.{decode_of}
use Rattle.encoding.proofs.Statements.{known-accepted}
use Rattle.elements.specs.Machine.{Machine, lent}
use Rattle.checks.proofs.Order.{Vb, length-sound}
use Rattle.inspection.proofs.Inspecting.{length-for-ok, length-for-power, inspected-length, inspected-z, inspected-p}
use Rattle.inspection.proofs.Inspecting.{inspected-decoded}
use Rattle.inspection.specs.Inspection.{length_for}
use Rattle.inspection.specs.declared.Inspected.{Inspected}
use Rattle.inspection.proofs.inspect.Goals as goal
use Rattle.inspection.proofs.inspect.Goals.{After-length_for, Else-p-vb, Start}

-- the machine lent
abbrev m : Start → Machine
m a = lent a.args.machine

-- after the test of VB: what it says of the word
by_word : (k : After-length_for) → k.length_for.result ≡ length_for k.args.flags k.args.machine.vb (decode_of k.args.word)
by_word k = k.length_for.ensures ∙ ap (length_for k.args.flags k.args.machine.vb) k.decode-decoded.ensures

-- past it
passed : (k : After-length_for) → k.length_for.result ≡ true → length_for k.args.flags k.args.machine.vb (decode_of k.args.word) ≡ true
passed k t = sym (by_word k) ∙ t

sound : (k : After-length_for) → k.length_for.result ≡ true → Vb k.args.flags.streaming k.args.machine.vb
sound k t =
    let g = k.args in
    length-sound g.flags.early g.flags.streaming g.machine.vb (length-for-ok g.flags g.machine.vb (decode_of g.word) (passed k t))

pub returns-then-not-length_for : goal.returns-then-not-length_for
returns-then-not-length_for c =
    let at = goal.at.returns-then-not-length_for c in
    let a = c.args in
    inspected-length a.flags (m at.Start) a.word a.e c.length_for.result (by_word at.After-length_for) c.if-not-length_for.true

pub overflow_mul-vb : goal.overflow_mul-vb
overflow_mul-vb c = omega (arith, (sound (goal.at.overflow_mul-vb c).After-length_for c.if-not-length_for.false).high)

pub returns-then-z-vb : goal.returns-then-z-vb
returns-then-z-vb c =
    let at = goal.at.returns-then-z-vb c in
    let a = c.args in
    inspected-z a.flags (m at.Start) a.word a.e c.length_for.result (by_word at.After-length_for) c.if-not-length_for.false
    c.if-z-vb.true

pub returns-then-p-vb : goal.returns-then-p-vb
returns-then-p-vb c =
    let at = goal.at.returns-then-p-vb c in
    let a = c.args in
    inspected-p a.flags (m at.Start) a.word a.e c.length_for.result (by_word at.After-length_for) c.if-not-length_for.false
    c.if-z-vb.false
    c.if-p-vb.true

pub inspect_store-requires : goal.inspect_store-requires
inspect_store-requires c =
    let k = (goal.at.inspect_store-requires c).After-length_for in
    let g = c.args in
    let q = sym c.decode-decoded.ensures ∙ c.in-Some.is in
    let p = sym (ap (length_for g.flags g.machine.vb) q) ∙ passed k c.if-not-length_for.false in
    let v = sound k c.if-not-length_for.false in
    record {
      store_value = (known-accepted g.word _ q, length-for-power g.flags g.machine.vb _ p);
      sound = record { low = v.low; high = v.high; sixteen = v.sixteen; long_z = c.if-z-vb.false; long_p = c.if-p-vb.false };
    }

pub returns-in-Some : goal.returns-in-Some
returns-in-Some c =
    let at = goal.at.returns-in-Some c in
    let a = c.args in
    ap (λ (i : Inspected). Ok i) c.inspect_store.ensures
    ∙ inspected-decoded a.flags (m at.Start) a.word a.e c.length_for.result (by_word at.After-length_for) c.if-not-length_for.false
    c.if-z-vb.false
    c.if-p-vb.false
    (Some _)
    (sym c.in-Some.is ∙ c.decode-decoded.ensures)

pub returns-in-None : goal.returns-in-None
returns-in-None c =
    let at = goal.at.returns-in-None c in
    let a = c.args in
    inspected-decoded a.flags (m at.Start) a.word a.e c.length_for.result (by_word at.After-length_for) c.if-not-length_for.false
    c.if-z-vb.false
    c.if-p-vb.false
    None
    (sym c.in-None.is ∙ c.decode-decoded.ensures)
