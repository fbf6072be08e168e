-- The bytes that land in a region are those of the record that comes next.
use Rattle.std.proofs.Common.{◌≡◌, ◌⊎◌, inl, inr, ⊎_elim, ℕ, ◌+◌, ◌-◌, ◌<◌, ◌≤◌, Bool, true, false, List, [], ◌∷◌, ◌++◌, length, take, drop, append_assoc, refl, sym, ap, ap₂, ◌∙◌, leb-true, ltb-true, arith}
use Rattle.std.specs.Prelude.{Option, Some, None, IfSome, nat_le, nat_lt, slice_index, if◌then◌else◌}
use Rattle.std.proofs.lemmas.Bool.{cases_Bool, and_parts, leb-false}
use Rattle.std.proofs.lemmas.List.{length-append, length-take, length-drop, take-append-drop, drop-drop}
use Rattle.std.proofs.Math.Seq.{drop-append-add}
use Rattle.genie_base.specs.Bytes.{part}
use Rattle.genie_base.specs.Headers.{header_size, size_of_header, is_whole_header, header_taken, len_in}
use Rattle.genie_base.specs.declared.event.Event.TheVariants.{Recv}
use Rattle.genie_base.specs.declared.reply.Mark.{Mark}
use Rattle.genie_model.specs.State.{State, Device, Datagram}
use Rattle.genie_model.specs.Tables.{entry}
use Rattle.genie_model.specs.Regions.{bytes_of}
use Rattle.genie_model.specs.Step.{accept, step}
use Rattle.genie_model.specs.Lemmas.Steps.{event_so}
use Rattle.genie_orderly.specs.Orderly.{IsOrderly}
use Rattle.genie_laws.specs.Integrity.{Landed, next_header, is_to_come, payload_byte, byte_to_come}
use Rattle.genie_laws.specs.Streams.{Taken, Consists, HasOfNext, Reads, HasTaken, IsPayloadByte, LandedFromNext, LandedBytesAreNext}
use Rattle.genie_laws.proofs.Inputs.Payloads.{front, size_least}
use Rattle.genie_laws.proofs.Inputs.ReceiveSteps.{inputs_keep_integrity}

-- a header that isn't whole is shorter than the one that it begins
part_short : (xs ys : List ℕ) → is_whole_header xs ≡ false → length xs ≤ size_of_header (xs ++ ys)
part_short [] ys part = omega arith
part_short (x ∷ []) ys part = let some = size_least x (slice_index (x ∷ ys) 1) in omega (arith, some)
part_short (x ∷ y ∷ xs) ys part = let less = leb-false (header_size x y) (length (x ∷ y ∷ xs)) part in omega (arith, less)

-- where bytes are left behind a header, it is whole
begun_size : (gathered rest : List ℕ) → is_whole_header gathered ≡ false → header_taken (length rest) gathered rest < length rest
    → length (gathered ++ take (header_taken (length rest) gathered rest) rest) ≡ size_of_header (gathered ++ take (header_taken (length rest) gathered rest) rest)
begun_size gathered rest part some =
    let h : ℕ = header_taken (length rest) gathered rest in
    let header : List ℕ = gathered ++ take h rest in
    let short = part_short gathered rest part in
    let least = size_least (slice_index (gathered ++ rest) 0) (slice_index (gathered ++ rest) 1) in
    let long : length header ≡ size_of_header (gathered ++ rest) = omega (arith, some, short, length-append gathered (take h rest), length-take h rest) in
    let size : size_of_header header ≡ size_of_header (gathered ++ rest) = ap₂ header_size (front gathered h rest 0 (omega (arith, long, least))) (front gathered h rest 1 (omega (arith, long, least))) in
    long ∙ sym size

-- a byte that is there
there : (x : ℕ) (bytes : List ℕ) → length (part x 1 bytes) ≡ 1 → x < length bytes
there x bytes one = omega (arith, one, length-take 1 (drop x bytes), length-drop x bytes)

-- of what the device has left
module _ (stream : List ℕ) (taken : List Taken) (header payload : List ℕ) (v : Device) (byte : List ℕ) (j : ℕ) (one : length byte ≡ 1) where
  abbrev FromNext : Type 0
  FromNext = (left : List ℕ) × Consists stream taken left × IsPayloadByte left j byte

  some_byte : (b : Bool) (bytes : List ℕ) → byte ≡ (if b then bytes else []) → (b ≡ true) × (byte ≡ bytes)
  some_byte true bytes e = (refl, e)
  some_byte false bytes e = absurd (omega (arith, one, ap length e))

  from_next : Consists stream taken (header ++ (payload ++ v.rest)) → v.is_bad ≡ false → (present : Option Datagram) → HasOfNext v.is_bad v.header present header payload → byte ≡ byte_to_come v present j → FromNext
  from_next cons fine (Some g) come e =
      let some = some_byte (is_to_come v (Some g) j) (part (j - g.moved) 1 v.rest) e in
      let both = and_parts (nat_le g.moved j) (nat_lt j g.len) some.0 in
      let low = leb-true g.moved j both.0 in
      let high = ltb-true j g.len both.1 in
      let moved = come.moved in
      let len = come.len in
      let i : ℕ = j - g.moved in
      let place : length payload + i ≡ j = omega (arith, low, moved) in (
        header ++ (payload ++ v.rest),
        cons,
        record {
          header = header;
          behind = payload ++ v.rest;
          whole = come.valid.whole;
          split = refl;
          within = omega (arith, high, len);
          is = some.1 ∙ ap (take 1) (sym (drop-append-add payload v.rest i)) ∙ ap (λ n. part n 1 (payload ++ v.rest)) place;
        },
      )
  from_next cons fine None next e =
      let h : ℕ = header_taken (length v.rest) v.header v.rest in
      let some = some_byte (is_to_come v None j) (part (h + j) 1 v.rest) e in
      let part_here = next.1 fine in
      let within = there (h + j) v.rest (ap length (sym some.1) ∙ one) in
      let split : header ++ (payload ++ v.rest) ≡ next_header v ++ drop h v.rest = ap₂ (λ a b. a ++ (b ++ v.rest)) part_here.0 next.0 ∙ ap (λ l. v.header ++ l) (sym (take-append-drop h v.rest)) ∙ sym (append_assoc v.header (take h v.rest) (drop h v.rest)) in (
        header ++ (payload ++ v.rest),
        cons,
        record {
          header = next_header v;
          behind = drop h v.rest;
          whole = begun_size v.header v.rest (ap is_whole_header (sym part_here.0) ∙ part_here.1) (omega (arith, within));
          split = split;
          within = ltb-true j (len_in (next_header v)) some.0;
          is = some.1 ∙ ap (take 1) (sym (dropped j h v.rest));
        },
      )
    where
      dropped : (j h : ℕ) (bytes : List ℕ) → drop j (drop h bytes) ≡ drop (h + j) bytes
      dropped j h bytes = drop-drop j h bytes

bad_stays : (s : State) (d k x : ℕ) (v : Device) → IsOrderly s → entry s.devices d ≡ Some v → v.is_bad ≡ true → (n : ℕ) → bytes_of (accept s (Recv d n)).0 k x 1 ≡ bytes_of s k x 1
bad_stays s d k x v o is bad n = rw (is, bad) (ap (λ (u : State). bytes_of u k x 1) o.tidied)

next_landed : (stream : List ℕ) (taken : List Taken) (s : State) (d k x : ℕ) (byte : List ℕ) (has : HasTaken stream d taken s) (v : Option Device) → entry s.devices d ≡ v → IfSome v (λ w. w.is_bad ≡ false) → IfSome v (Reads stream taken has.header has.payload) → Landed s d k x byte → LandedFromNext stream taken s d k x byte
next_landed stream taken s d k x byte has None is fine reads l = let none : length byte ≡ 0 = ap length (l.payload ∙ ap (λ o. payload_byte o (x - l.input.offset)) is) in absurd (omega (arith, none, l.one))
next_landed stream taken s d k x byte has (Some v) is fine reads l =
    let from = from_next stream taken has.header has.payload v byte (x - l.input.offset) l.one reads.0 fine v.present reads.1 (l.payload ∙ ap (λ o. payload_byte o (x - l.input.offset)) is) in
    record { landed = l; left = from.0; next = from.1; payload = from.2 }

abbrev Shows : List ℕ → List Taken → State → ℕ → ℕ → Mark → ℕ → ℕ → Type 0
Shows stream taken s d n m k x = (bytes_of (step s (Recv d n) m).0 k x 1 ≡ bytes_of s k x 1) ⊎ LandedFromNext stream taken s d k x (bytes_of (step s (Recv d n) m).0 k x 1)

by_device : (stream : List ℕ) (taken : List Taken) (s : State) (d n : ℕ) (m : Mark) (k x : ℕ) → IsOrderly s → (has : HasTaken stream d taken s) (v : Option Device) → entry s.devices d ≡ v → IfSome v (Reads stream taken has.header has.payload) → Shows stream taken s d n m k x
by_device stream taken s d n m k x o has None is reads = ⊎_elim inl (λ l. inr (next_landed stream taken s d k x _ has None is tt reads l)) (inputs_keep_integrity s d n m k x o)
by_device stream taken s d n m k x o has (Some v) is reads = ⊎_elim
    (λ (bad : v.is_bad ≡ true). inl (event_so (λ (u : State). bytes_of u k x 1 ≡ bytes_of s k x 1) s refl (Recv d n) (λ _. bad_stays s d k x v o is bad n) (λ _ b. bad_stays s d k x v o is bad b) m))
    (λ (fine : v.is_bad ≡ false). ⊎_elim inl (λ l. inr (next_landed stream taken s d k x _ has (Some v) is fine reads l)) (inputs_keep_integrity s d n m k x o))
    (cases_Bool v.is_bad)

pub landed_bytes_are_next : LandedBytesAreNext
landed_bytes_are_next s o stream taken d n m k x has = by_device stream taken s d n m k x o has (entry s.devices d) refl has.device
