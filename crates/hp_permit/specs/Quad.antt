-- Numbers of four nodes.
use Rattle.std.specs.Prelude.{ℕ, ◌+◌, ◌-◌, ◌==◌, if◌then◌else◌}

pub record Quad : Type 0 where
  pub zero : ℕ
  pub one : ℕ
  pub two : ℕ
  pub three : ℕ

abbrev pub at : ℕ → Quad → ℕ
at node q = if node == 0 then q.zero else if node == 1 then q.one else if node == 2 then q.two else if node == 3 then q.three else 0

abbrev pub where_is : ℕ → ℕ → ℕ → ℕ
where_is node k count = if node == k then count else 0

-- so many of one node
abbrev pub alone : (node count : ℕ) → Quad
alone node count = record {
  zero = where_is node 0 count;
  one = where_is node 1 count;
  two = where_is node 2 count;
  three = where_is node 3 count;
}

abbrev pub plus : Quad → Quad → Quad
plus p q = record { zero = p.zero + q.zero; one = p.one + q.one; two = p.two + q.two; three = p.three + q.three }

abbrev pub less : (node count : ℕ) → Quad → Quad
less node count q = record {
  zero = q.zero - where_is node 0 count;
  one = q.one - where_is node 1 count;
  two = q.two - where_is node 2 count;
  three = q.three - where_is node 3 count;
}
