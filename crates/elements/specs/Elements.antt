-- A store's active elements: the one list that running a store, its counts and its patch are read from. Assumes nothing.
use Rattle.std.specs.Prelude.{ℕ, zero, suc, Bool, cond, List, [], ◌∷◌, take, drop}
use Rattle.encoding.specs.Encoding.{class_for}
use Rattle.encoding.specs.declared.Store.{Store}
use Rattle.writes.specs.Elements.{Element}
use Rattle.elements.specs.Machine.{Machine, vector}
use Rattle.elements.specs.Stores.{size_of, count_of, active_in, address_in, register_in, index_in}

unfoldable pub active_at : Machine → Store → ℕ → Bool
active_at m s e = active_in m (class_for s) s e

-- element e: its number, its address, and "The low msize bits", "lowest byte first": the first bytes of the element in its register,
-- since registers are little-endian too
unfoldable pub element_at : Machine → Store → ℕ → Element
element_at m s e =
    record {
      number = e;
      address = address_in m (class_for s) s e;
      bytes = take (size_of (class_for s)) (drop (index_in m (class_for s) s e) (vector m (register_in m (class_for s) s e)));
    }

-- of the n elements from number e on, those that are on, "in ascending element number"
unfoldable pub actives : (ℕ → Bool) → (ℕ → Element) → ℕ → ℕ → List Element
actives on el zero e = []
actives on el (suc n) e = cond (on e) (el e ∷ actives on el n (suc e)) (actives on el n (suc e))

-- a store's active elements
unfoldable pub elements : Machine → Store → List Element
elements m s = actives (active_at m s) (element_at m s) (count_of m s) 0
