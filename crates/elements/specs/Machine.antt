-- Document 01, 'The machine lent to the model': its registers. Assumes nothing.
use Rattle.std.specs.Prelude.{ℕ, ◌*◌, ◌/◌, ◌%◌, ◌^◌, Bool, cond, List, take, drop, ◌==◌, slice_index}
use Rattle.elements.specs.declared.machine.Machine as Rust

-- VB in bytes, "31 general registers and SP, 64 bits each", the Z buffer and the P buffer
pub record Machine : Type 0 where
  pub vb : ℕ
  pub x : List ℕ
  pub sp : ℕ
  pub z : List ℕ
  pub p : List ℕ

abbrev pub machine : ℕ → List ℕ → ℕ → List ℕ → List ℕ → Machine
machine vb x sp z p = record { vb = vb; x = x; sp = sp; z = z; p = p }

-- the one that is lent
abbrev pub lent : Rust.Machine → Machine
lent m = machine m.vb m.x.now m.sp m.z.now m.p.now

-- the same with another Z buffer
abbrev pub lent_with : Rust.Machine → List ℕ → Machine
lent_with m z = machine m.vb m.x.now m.sp z m.p.now

-- "Register number 31 is SP as Rn, and zero as Rm."
abbrev pub base_of : Machine → ℕ → ℕ
base_of m n = cond (n == 31) m.sp (slice_index m.x n)

abbrev pub index_of : Machine → ℕ → ℕ
index_of m n = cond (n == 31) 0 (slice_index m.x n)

-- register r of a buffer whose registers have n bytes each
abbrev pub register : ℕ → List ℕ → ℕ → List ℕ
register n s r = take n (drop (r * n) s)

-- "Z buffer: 32·VB bytes, register r from byte r·VB"
abbrev pub vector : Machine → ℕ → List ℕ
vector m r = register m.vb m.z r

-- "P buffer: 2·VB bytes, register g from byte g·VB/8"
abbrev pub predicate : Machine → ℕ → List ℕ
predicate m g = register (m.vb / 8) m.p g

-- "bit i in byte i/8 at place i mod 8"
unfoldable pub bit_at : List ℕ → ℕ → Bool
bit_at s i = slice_index s (i / 8) / 2 ^ (i % 8) % 2 == 1
