-- The numbers of a round, drawn one after the other.
use Rattle.std.specs.Prelude.{ℕ, zero, suc, ◌+◌, ◌*◌, ◌/◌, ◌%◌, ◌^◌}
use Rattle.genie_gen.specs.declared.draws.Round.{Round}

-- numbers are taken modulo 2^64
abbrev pub wrapped : ℕ → ℕ
wrapped n = n % 2 ^ 64

-- one draw replaces the state
unfoldable pub next : ℕ → ℕ
next x = wrapped (wrapped (x * 6364136223846793005) + 1442695040888963407)

-- the state after so many draws
abbrev pub after : ℕ → ℕ → ℕ
after zero x = x
after (suc n) x = next (after n x)

-- the number below m that a new state gives, from its high bits
abbrev pub drawn : ℕ → ℕ → ℕ
drawn m x = x / 2 ^ 33 % m

-- what a round draws, in this order
abbrev pub round_of : ℕ → Round
round_of x = record {
  device = drawn 3 (after 1 x);
  output = drawn 4 (after 2 x);
  input = drawn 4 (after 3 x);
  system = drawn 4 (after 4 x);
  from = drawn 64 (after 5 x);
  sent = 1 + drawn 64 (after 6 x);
  to = drawn 64 (after 7 x);
  wanted = 1 + drawn 64 (after 8 x);
  receive = 1 + drawn 8 (after 9 x);
  send = 1 + drawn 8 (after 10 x);
  pages = drawn 16 (after 11 x);
  moved = 49 + drawn 16 (after 12 x);
  first = drawn 256 (after 13 x);
}
