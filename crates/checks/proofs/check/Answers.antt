-- `check`: the table's lines in their order. Assumes nothing.
use mathlib.Core.Path.{◌≡◌, sym, ap, ◌∙◌, subst}
use mathlib.Core.Bool.{true, not}
use native.Mathlib.Omega.{arith}
use Rattle.endian.proofs.LittleEndian.{bytes-at}
use Rattle.encoding.proofs.Statements.{known-accepted}
use Rattle.elements.specs.Machine.{Machine, lent}
use Rattle.checks.specs.Checking.{CheckedAs}
use Rattle.verdicts.specs.declared.Refusal.TheVariants.{Length, Registers, Window}
use Rattle.checks.proofs.Order.{Vb, length-sound, of_length, of-registers, sound, of-window, of-decoded}
use Rattle.checks.proofs.Checking.{refused_as, known_as, undefined-as}
use Rattle.checks.proofs.check.Goals as goal
use Rattle.checks.proofs.check.Goals.{After-length_ok, Start}

-- the machine lent
abbrev m : Start → Machine
m a = lent a.args.machine

pub returns-then-not-length_ok : goal.returns-then-not-length_ok
returns-then-not-length_ok c =
    let g = c.args in
    refused_as g.flags (m (goal.at.returns-then-not-length_ok c).Start) g.base g.length g.word Length (omega arith)
    (of_length g.flags (m (goal.at.returns-then-not-length_ok c).Start) g.base g.length g.word c.length_ok.result c.length_ok.ensures (ap not c.if-not-length_ok.true))

-- VB passed the test
allowed : (l : After-length_ok) → l.length_ok.result ≡ true → Vb l.args.flags.streaming l.args.machine.vb
allowed l t =
    let g = l.args in
    length-sound g.flags.early g.flags.streaming g.machine.vb (sym l.length_ok.ensures ∙ t)

pub overflow_mul-vb : goal.overflow_mul-vb
overflow_mul-vb c = omega (arith, (allowed (goal.at.overflow_mul-vb c).After-length_ok c.if-not-length_ok.false).high)

pub overflow_mul-vb-2 : goal.overflow_mul-vb-2
overflow_mul-vb-2 c = omega (arith, (allowed (goal.at.overflow_mul-vb-2 c).After-length_ok c.if-not-length_ok.false).high)

pub returns-then-z-vb : goal.returns-then-z-vb
returns-then-z-vb c =
    let g = c.args in
    refused_as g.flags (m (goal.at.returns-then-z-vb c).Start) g.base g.length g.word Registers (omega arith)
    (of-registers g.flags (m (goal.at.returns-then-z-vb c).Start) g.base g.length g.word c.length_ok.result c.length_ok.ensures
    (ap not c.if-not-length_ok.false) c.if-z-vb.true)

pub returns-then-not-window_ok : goal.returns-then-not-window_ok
returns-then-not-window_ok c =
    let g = c.args in
    refused_as g.flags (m (goal.at.returns-then-not-window_ok c).Start) g.base g.length g.word Window (omega arith)
    (of-window g.flags (m (goal.at.returns-then-not-window_ok c).Start) g.base g.length g.word c.length_ok.result c.length_ok.ensures
    (ap not c.if-not-length_ok.false) c.if-z-vb.false c.window_ok.result c.window_ok.ensures (ap not c.if-not-window_ok.true))

pub check_store-requires : goal.check_store-requires
check_store-requires c =
    let g = c.args in
    let o = sound g.flags (m (goal.at.check_store-requires c).Start) g.base g.length g.word c.length_ok.result c.length_ok.ensures
    (ap not c.if-not-length_ok.false) c.if-z-vb.false in
    let v = allowed (goal.at.check_store-requires c).After-length_ok c.if-not-length_ok.false in
    record {
      store_value = known-accepted g.word c.in-Some.store (sym c.decode.ensures ∙ c.in-Some.is);
      le_vb = (o.low, o.high, o.sixteen, o.long_p, v.power);
    }

pub returns-in-Some : goal.returns-in-Some
returns-in-Some c =
    let g = c.args in
    let b = bytes-at g.machine.z.now g.machine.bytes in
    let o = sound g.flags (m (goal.at.returns-in-Some c).Start) g.base g.length g.word c.length_ok.result c.length_ok.ensures
    (ap not c.if-not-length_ok.false) c.if-z-vb.false in
    subst (CheckedAs g.flags (m (goal.at.returns-in-Some c).Start) g.base g.length g.word) (sym (c.check_store.ensures g.machine.z.now o b))
    (known_as g.flags (m (goal.at.returns-in-Some c).Start) g.base g.length g.word b o
    (sym c.window_ok.ensures ∙ c.if-not-window_ok.false)
    (of-decoded g.flags (m (goal.at.returns-in-Some c).Start) g.base g.length g.word c.length_ok.result c.length_ok.ensures
    (ap not c.if-not-length_ok.false)
    c.if-z-vb.false c.window_ok.result c.window_ok.ensures (ap not c.if-not-window_ok.false))
    c.in-Some.store (sym c.in-Some.is ∙ c.decode.ensures))

pub returns-in-None : goal.returns-in-None
returns-in-None c =
    let g = c.args in
    undefined-as g.flags (m (goal.at.returns-in-None c).Start) g.base g.length g.word
    (of-decoded g.flags (m (goal.at.returns-in-None c).Start) g.base g.length g.word c.length_ok.result c.length_ok.ensures
    (ap not c.if-not-length_ok.false)
    c.if-z-vb.false c.window_ok.result c.window_ok.ensures (ap not c.if-not-window_ok.false))
    (sym c.in-None.is ∙ c.decode.ensures)
