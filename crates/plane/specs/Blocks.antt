-- The four sons of a block of the tree are the tree's blocks one level down.
use Rattle.std.specs.Prelude.{◌≡◌, ℕ, zero, suc, ◌+◌, ◌/◌, ◌^◌, ◌≤◌}
use Rattle.std.proofs.Common.{pow-suc, arith}
use Rattle.definitions.specs.Shape.{nw_of, ne_of, sw_of, se_of}
use Rattle.definitions.specs.Tree.{block}

pub double : (n : ℕ) → 2 ^ suc n ≡ 2 ^ n + 2 ^ n
double n = rw (pow-suc 2 n) (omega arith)

pub half_power : (n : ℕ) → 2 ^ suc (suc n) / 2 ≡ 2 ^ suc n
half_power n = omega (arith, double (suc n))

pub some_power : (n : ℕ) → 1 ≤ 2 ^ n
some_power zero = omega arith
some_power (suc n) = omega (arith, double n, some_power n)

module _ (n w s : ℕ) where
  pub nw_is : nw_of (block (suc n) w s) ≡ block n w (s + 2 ^ suc n)
  nw_is = λ i. record { west = w; south = s + half_power n i; side = half_power n i }

  pub ne_is : ne_of (block (suc n) w s) ≡ block n (w + 2 ^ suc n) (s + 2 ^ suc n)
  ne_is = λ i. record { west = w + half_power n i; south = s + half_power n i; side = half_power n i }

  pub sw_is : sw_of (block (suc n) w s) ≡ block n w s
  sw_is = λ i. record { west = w; south = s; side = half_power n i }

  pub se_is : se_of (block (suc n) w s) ≡ block n (w + 2 ^ suc n) s
  se_is = λ i. record { west = w + half_power n i; south = s; side = half_power n i }
