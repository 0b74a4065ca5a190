-- Document 02, §10, said without a division: each quotient by the two products that it lies between.
use Rattle.std.specs.Prelude.{ℕ, ◌≤◌, ℤ, pos, neg_ℤ, ◌+ℤ◌, ◌-ℤ◌, ◌*ℤ◌, ◌≤ℤ◌, ◌<ℤ◌}
use Rattle.gust.specs.declared.Row.{Row}

-- q is x divided by d, "rounded down"
pub record Down (q x d : ℤ) : Type 0 where
  pub least : (q *ℤ d) ≤ℤ x
  pub most : x <ℤ ((q +ℤ pos 1) *ℤ d)

-- Ā in thousandths, by its quotient
abbrev pub mean_by : Row → ℤ → ℤ
mean_by c share = c.c1 +ℤ share

-- g is the gust at height h, mass m, acceleration n and speed v
pub record Formula (c : Row) (h m n v g : ℤ) : Type 0 where
  -- "1,000,000·c2 divided by (1000·c3 + H)"
  pub share : ℤ
  pub first : Down share c.c2 (c.c3 +ℤ h)
  -- "100·c4 times (Ā less 1000·c5) times (m less the reference mass), divided by 100 times the reference mass"
  pub more : ℤ
  pub second : Down more (c.c4 *ℤ (mean_by c share -ℤ c.c5) *ℤ (m -ℤ c.reference)) (pos 100 *ℤ c.reference)
  -- "10·A·m·n divided by 1,000,000,000·V"
  pub third : Down g (pos 10 *ℤ (mean_by c share +ℤ more) *ℤ m *ℤ n) (pos 1000000000 *ℤ v)

-- "H in feet from -1000 to 50,000", "m from 1 to 500,000", n "0 to 5000", "V is 1 to 500 knots"
pub record InRange (h : ℤ) (m n v : ℕ) : Type 0 where
  pub lowest : neg_ℤ (pos 1000) ≤ℤ h
  pub highest : h ≤ℤ pos 50000
  pub lightest : 1 ≤ m
  pub heaviest : m ≤ 500000
  pub strongest : n ≤ 5000
  pub slowest : 1 ≤ v
  pub fastest : v ≤ 500
