-- Each made event is whole, and its numbers and bytes are in the ranges of their types.
use Rattle.std.proofs.Common.{◌≡◌, ℕ, zero, suc, ◌+◌, ◌*◌, ◌%◌, ◌<◌, ◌≤◌, eqb, ltb, Bool, true, false, cond, List, [], ◌∷◌, ◌++◌, length, length-append, arith, refl}
use Rattle.std.specs.Prelude.{⊤, None, Some}
use Rattle.std.specs.List.{range_with_len}
use Rattle.std.proofs.Math.Nat.{mod-lt}
use Rattle.std.proofs.lemmas.Bool.{lt-ltb}
use Rattle.std.proofs.lemmas.List.Elements.{All-map}
use Rattle.std.proofs.lemmas.List.FromFn.{length-map-range_with_len}
use Rattle.genie_base.specs.declared.event.Event.{Event}
use Rattle.genie_base.specs.declared.event.Event.TheVariants as event
use Rattle.genie_base.specs.Events.{is_whole}
use Rattle.genie_base.specs.declared.semantics.Semantics.{Semantics}
use Rattle.genie_base.specs.declared.semantics.Semantics.TheVariants.{Copy, EmulatedCopy, Share, EmulatedShare, Move, EmulatedMove, WeakMove, EmulatedWeakMove}
use Rattle.genie_base.specs.Transfers.{class_of, is_system}
use Rattle.genie_script.specs.Laws.{FitsBytes, FitsEvent}
use Rattle.genie_gen.specs.declared.draws.Round.{Round}
use Rattle.genie_gen.specs.Draws.{after, drawn, round_of}
use Rattle.genie_gen.specs.Rounds.{application, counting, owner, round_events, system}
use Rattle.genie_gen.specs.Scripts.{made_events, rounds_events}
use Rattle.genie_gen.proofs.Lines.{round_length}

-- an event that is read from its spelling
pub record IsSpelled (e : Event) : Type 0 where
  pub fits : FitsEvent e
  pub whole : is_whole e ≡ true

abbrev pub Each : List Event → Type 0
Each [] = ⊤
Each (e ∷ es) = IsSpelled e × Each es

pub record AreSpelled (es : List Event) : Type 0 where
  pub each : Each es

none : AreSpelled []
none = record { each = tt }

infixr 5 ◌&◌
◌&◌ : {e : Event} {es : List Event} → IsSpelled e → AreSpelled es → AreSpelled (e ∷ es)
h & t = record { each = (h, t.each) }

joined : (es fs : List Event) → AreSpelled es → AreSpelled fs → AreSpelled (es ++ fs)
joined [] fs h t = t
joined (e ∷ es) fs h t = h.each.0 & joined es fs (record { each = h.each.1 }) t

-- ---- what is drawn

-- no number of a round is large
record IsSmall (r : Round) : Type 0 where
  device : r.device < 300
  from : r.from < 300
  sent : r.sent < 300
  to : r.to < 300
  wanted : r.wanted < 300
  receive : r.receive < 300
  send : r.send < 300
  pages : r.pages < 300
  moved : r.moved < 300

below : (m x : ℕ) → 0 < m → drawn m x < m
below m x lt = mod-lt _ lt

round_small : (x : ℕ) → IsSmall (round_of x)
round_small x = record {
  device = omega (arith, below 3 (after 1 x) (omega arith));
  from = omega (arith, below 64 (after 5 x) (omega arith));
  sent = omega (arith, below 64 (after 6 x) (omega arith));
  to = omega (arith, below 64 (after 7 x) (omega arith));
  wanted = omega (arith, below 64 (after 8 x) (omega arith));
  receive = omega (arith, below 8 (after 9 x) (omega arith));
  send = omega (arith, below 8 (after 10 x) (omega arith));
  pages = omega (arith, below 16 (after 11 x) (omega arith));
  moved = omega (arith, below 16 (after 12 x) (omega arith));
}

choice : {A : Type 0} (P : A → Type 0) (b : Bool) (x y : A) → P x → P y → P (cond b x y)
choice P true x y p q = p
choice P false x y p q = q

application_class : (n : ℕ) → is_system (class_of (application n)) ≡ false
application_class n =
    let P : Semantics → Type 0 = λ sem. is_system (class_of sem) ≡ false in
    choice P (eqb n 0) Copy _ refl (choice P (eqb n 1) EmulatedCopy _ refl (choice P (eqb n 2) Share EmulatedShare refl refl))

system_class : (n : ℕ) → is_system (class_of (system n)) ≡ true
system_class n =
    let P : Semantics → Type 0 = λ sem. is_system (class_of sem) ≡ true in
    choice P (eqb n 0) Move _ refl (choice P (eqb n 1) EmulatedMove _ refl (choice P (eqb n 2) WeakMove EmulatedWeakMove refl refl))

owner_small : (n : ℕ) → owner n < 300
owner_small n = choice (λ (pid : ℕ). pid < 300) (ltb n 2) 0 1 (omega arith) (omega arith)

counting_fits : (q : ℕ) → FitsBytes (counting q)
counting_fits q = record {
  most = omega (arith, length-map-range_with_len (λ (j : ℕ). (q + j) % 256) 0 16);
  each = All-map (λ (b : ℕ). b < 256) (λ (j : ℕ). (q + j) % 256) (range_with_len 0 16) (λ k d lt. mod-lt _ (omega arith));
}

counting_filled : (q : ℕ) → ltb 0 (length (counting q)) ≡ true
counting_filled q = lt-ltb 0 (length (counting q)) (omega (arith, length-map-range_with_len (λ (j : ℕ). (q + j) % 256) 0 16))

-- ---- one event

write : (pid addr q : ℕ) → pid < 300 → addr < 10000 → IsSpelled (event.Write pid addr (counting q))
write pid addr q f g = record { fits = (omega (arith, f), omega (arith, g), counting_fits q); whole = counting_filled q }

output : (pid : ℕ) (sem : Semantics) (dev port addr len : ℕ) → pid < 300 → dev < 300 → port < 10 → addr < 10000 → len < 301 → IsSpelled (event.Output pid sem dev port None addr len)
output pid sem dev port addr len f g h k l = record { fits = ((omega (arith, f), omega (arith, g), omega (arith, h), tt), omega (arith, k), omega (arith, l)); whole = refl }

input : (pid : ℕ) (sem : Semantics) (dev port addr len : ℕ) → is_system (class_of sem) ≡ false → pid < 300 → dev < 300 → port < 10 → addr < 300 → len < 301 → IsSpelled (event.Input pid sem dev port None (Some addr) len)
input pid sem dev port addr len c f g h k l = record { fits = ((omega (arith, f), omega (arith, g), omega (arith, h), tt), omega (arith, k), omega (arith, l)); whole = rw c refl }

moving : (pid : ℕ) (sem : Semantics) (dev port len : ℕ) → is_system (class_of sem) ≡ true → pid < 300 → dev < 300 → port < 10 → len < 301 → IsSpelled (event.Input pid sem dev port None None len)
moving pid sem dev port len c f g h l = record { fits = ((omega (arith, f), omega (arith, g), omega (arith, h), tt), tt, omega (arith, l)); whole = rw c refl }

receive : (dev len : ℕ) → dev < 300 → len < 301 → IsSpelled (event.Recv dev len)
receive dev len f g = record { fits = (omega (arith, f), omega (arith, g)); whole = refl }

send : (dev len : ℕ) → dev < 300 → len < 301 → IsSpelled (event.Send dev len)
send dev len f g = record { fits = (omega (arith, f), omega (arith, g)); whole = refl }

finish : (id : ℕ) → id < 200000 → IsSpelled (event.Finish id)
finish id f = record { fits = omega (arith, f); whole = refl }

read : (pid addr len : ℕ) → pid < 300 → addr < 300 → len < 300 → IsSpelled (event.Read pid addr len)
read pid addr len f g h = record { fits = (omega (arith, f), omega (arith, g), omega (arith, h)); whole = refl }

pageout : (pages : ℕ) → pages < 300 → IsSpelled (event.Pageout pages)
pageout pages f = record { fits = omega (arith, f); whole = refl }

-- ---- all of them

round_spelled : (r : Round) (i : ℕ) → IsSmall r → i < 30000 → AreSpelled (round_events r i)
unfolding round_events
round_spelled r i s lt =
    let few : 300 < 301 = omega arith in
    let zero_small : 0 < 300 = omega arith in
    let two_small : 2 < 300 = omega arith in
    let owns = owner_small r.system in
    write 0 r.from r.first zero_small (omega (arith, s.from))
    & output 0 (application r.output) r.device 7 r.from r.sent zero_small s.device (omega arith) (omega (arith, s.from)) (omega (arith, s.sent))
    & input 0 (application r.input) r.device 9 r.to r.wanted (application_class r.input) zero_small s.device (omega arith) s.to (omega (arith, s.wanted))
    & receive r.device r.receive s.device (omega (arith, s.receive))
    & write 0 r.from (r.first + 1) zero_small (omega (arith, s.from))
    & send r.device r.send s.device (omega (arith, s.send))
    & pageout r.pages s.pages
    & record { fits = (omega arith, omega arith); whole = refl }
    & write 0 r.to (r.first + 2) zero_small (omega (arith, s.to))
    & receive r.device 300 s.device few
    & send r.device 300 s.device few
    & send r.device 300 s.device few
    & send r.device 300 s.device few
    & finish (4 * i + 1) (omega (arith, lt))
    & finish (4 * i + 2) (omega (arith, lt))
    & read 0 r.to 16 zero_small s.to (omega arith)
    & read 2 r.from 16 two_small s.from (omega arith)
    & record { fits = omega arith; whole = refl }
    & moving (owner r.system) (system r.system) r.device 9 r.moved (system_class r.system) owns s.device (omega arith) (omega (arith, s.moved))
    & receive r.device 300 s.device few
    & finish (4 * i + 3) (omega (arith, lt))
    & write (owner r.system) 8192 (r.first + 3) owns (omega arith)
    & output (owner r.system) (system r.system) r.device 7 8192 r.moved owns s.device (omega arith) (omega arith) (omega (arith, s.moved))
    & send r.device 300 s.device few
    & send r.device 300 s.device few
    & send r.device 300 s.device few
    & finish (4 * i + 4) (omega (arith, lt))
    & none

rounds_spelled : (x i n : ℕ) → i + n ≤ 30000 → AreSpelled (rounds_events x i n)
rounds_spelled x i zero le = none
rounds_spelled x i (suc n) le = joined (round_events (round_of x) i) _ (round_spelled (round_of x) i (round_small x) (omega (arith, le))) (rounds_spelled (after 13 x) (i + 1) n (omega (arith, le)))

pub events_spelled : (seed rounds : ℕ) → rounds ≤ 30000 → AreSpelled (made_events seed rounds)
unfolding made_events
events_spelled seed rounds le =
    record { fits = omega arith; whole = refl }
    & record { fits = omega arith; whole = refl }
    & record { fits = (omega arith, omega arith, omega arith); whole = refl }
    & rounds_spelled seed 0 rounds (omega (arith, le))

rounds_number : (x i n : ℕ) → length (rounds_events x i n) ≡ 27 * n
rounds_number x i zero = refl
rounds_number x i (suc n) =
    omega (arith, length-append (round_events (round_of x) i) (rounds_events (after 13 x) (i + 1) n), round_length (round_of x) i, rounds_number (after 13 x) (i + 1) n)

pub events_number : (seed rounds : ℕ) → length (made_events seed rounds) ≡ 3 + 27 * rounds
unfolding made_events
events_number seed rounds = omega (arith, rounds_number seed 0 rounds)
