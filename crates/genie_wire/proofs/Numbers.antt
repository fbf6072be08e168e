-- Numbers as bytes, and the two ways of a header.
use Rattle.std.proofs.Common.{◌≡◌, ℕ, ◌+◌, ◌^◌, ◌<◌, ◌≤◌, List, [], ◌∷◌, ◌++◌, length, get_or, take, drop, Option, Some, None, refl, sym, ap, ◌∙◌, arith, inl, inr, length-drop}
use Rattle.std.specs.Prelude.{IfSome, nat_le}
use Rattle.std.specs.Int.{from_be_bytes, to_be_bytes, w16, w32}
use Rattle.std.proofs.lemmas.Bool.{cases_lt}
use Rattle.std.proofs.lemmas.List.{length-take, get_or-drop, get_or-take, get_or_past, nil_from_length}
use Rattle.std.proofs.lemmas.Nat.{be_bytes_2, be_bytes_4, from_be_bytes-to_be_bytes_2, from_be_bytes-to_be_bytes_4}
use Rattle.genie_base.specs.Records.{header_bytes}
use Rattle.genie_base.specs.Headers.{port_in, len_in}
use Rattle.genie_wire.specs.declared.header.Header.{Header}
use Rattle.genie_wire.specs.Headers.{Fits, ReadsBack}

abbrev pub IsBytes : List ℕ → Type 0
IsBytes bytes = (i : ℕ) → get_or bytes i 0 < 256

IsBytes-drop : (n : ℕ) (bytes : List ℕ) → IsBytes bytes → IsBytes (drop n bytes)
IsBytes-drop n bytes h i = rw get_or-drop (h (n + i))

IsBytes-take : (n : ℕ) (bytes : List ℕ) → IsBytes bytes → IsBytes (take n bytes)
IsBytes-take n bytes h i =
    elim (cases_lt i n) [
      | inl lt ↦ rw (get_or-take n bytes i 0 lt) (h i)
      | inr le ↦ rw (get_or_past (take n bytes) i 0 (omega (arith, length-take n bytes))) (omega arith)
    ]

-- what both formats begin with, and what follows
abbrev begins : List ℕ → List ℕ
begins bytes = get_or bytes 0 0 ∷ get_or bytes 1 0 ∷ to_be_bytes w16 (port_in bytes) ++ to_be_bytes w32 (len_in bytes) ++ drop 8 bytes

is_begun : (bytes : List ℕ) → IsBytes bytes → 8 ≤ length bytes → bytes ≡ begins bytes
is_begun [] fits le = absurd (omega (arith, le))
is_begun (a ∷ []) fits le = absurd (omega (arith, le))
is_begun (a ∷ b ∷ []) fits le = absurd (omega (arith, le))
is_begun (a ∷ b ∷ p ∷ []) fits le = absurd (omega (arith, le))
is_begun (a ∷ b ∷ p ∷ q ∷ []) fits le = absurd (omega (arith, le))
is_begun (a ∷ b ∷ p ∷ q ∷ c ∷ []) fits le = absurd (omega (arith, le))
is_begun (a ∷ b ∷ p ∷ q ∷ c ∷ d ∷ []) fits le = absurd (omega (arith, le))
is_begun (a ∷ b ∷ p ∷ q ∷ c ∷ d ∷ e ∷ []) fits le = absurd (omega (arith, le))
is_begun (a ∷ b ∷ p ∷ q ∷ c ∷ d ∷ e ∷ f ∷ rest) fits le =
    let all : List ℕ = a ∷ b ∷ p ∷ q ∷ c ∷ d ∷ e ∷ f ∷ rest in
    let port : to_be_bytes w16 (port_in all) ≡ p ∷ q ∷ [] = be_bytes_2 (p ∷ q ∷ []) (port_in all) refl (IsBytes-take 2 (drop 2 all) (IsBytes-drop 2 all fits)) refl in
    let len : to_be_bytes w32 (len_in all) ≡ c ∷ d ∷ e ∷ f ∷ [] = be_bytes_4 (c ∷ d ∷ e ∷ f ∷ []) (len_in all) refl (IsBytes-take 4 (drop 4 all) (IsBytes-drop 4 all fits)) refl in
    ap (λ (x : List ℕ). a ∷ b ∷ x ++ c ∷ d ∷ e ∷ f ∷ rest) (sym port) ∙ ap (λ (x : List ℕ). a ∷ b ∷ to_be_bytes w16 (port_in all) ++ x ++ rest) (sym len)

pub plain : (bytes : List ℕ) → IsBytes bytes → length bytes ≡ 8 → get_or bytes 0 0 ≡ 71 → get_or bytes 1 0 ≡ 68 → bytes ≡ header_bytes (port_in bytes) None (len_in bytes)
plain bytes fits len e0 e1 =
    let nothing : drop 8 bytes ≡ [] = nil_from_length (drop 8 bytes) (omega (arith, length-drop 8 bytes)) in
    is_begun bytes fits (omega arith)
    ∙ ap (λ (a : ℕ). a ∷ get_or bytes 1 0 ∷ to_be_bytes w16 (port_in bytes) ++ to_be_bytes w32 (len_in bytes) ++ drop 8 bytes) e0
    ∙ ap (λ (b : ℕ). 71 ∷ b ∷ to_be_bytes w16 (port_in bytes) ++ to_be_bytes w32 (len_in bytes) ++ drop 8 bytes) e1
    ∙ ap (λ (x : List ℕ). 71 ∷ 68 ∷ to_be_bytes w16 (port_in bytes) ++ to_be_bytes w32 (len_in bytes) ++ x) nothing

pub flowing : (bytes : List ℕ) → IsBytes bytes → length bytes ≡ 12 → get_or bytes 0 0 ≡ 71 → get_or bytes 1 0 ≡ 69 → bytes ≡ header_bytes (port_in bytes) (Some (from_be_bytes w32 (drop 8 bytes))) (len_in bytes)
flowing bytes fits len e0 e1 =
    let flow : to_be_bytes w32 (from_be_bytes w32 (drop 8 bytes)) ≡ drop 8 bytes = be_bytes_4 (drop 8 bytes) _ (omega (arith, length-drop 8 bytes)) (IsBytes-drop 8 bytes fits) refl in
    is_begun bytes fits (omega arith)
    ∙ ap (λ (a : ℕ). a ∷ get_or bytes 1 0 ∷ to_be_bytes w16 (port_in bytes) ++ to_be_bytes w32 (len_in bytes) ++ drop 8 bytes) e0
    ∙ ap (λ (b : ℕ). 71 ∷ b ∷ to_be_bytes w16 (port_in bytes) ++ to_be_bytes w32 (len_in bytes) ++ drop 8 bytes) e1
    ∙ ap (λ (x : List ℕ). 71 ∷ 69 ∷ to_be_bytes w16 (port_in bytes) ++ to_be_bytes w32 (len_in bytes) ++ x) (sym flow)

made : (p l : ℕ) (f : Option ℕ) (p' l' : ℕ) (f' : Option ℕ) → p ≡ p' → f ≡ f' → l ≡ l' → (let a : Header = record { port = p; flow = f; len = l } in a) ≡ (let b : Header = record { port = p'; flow = f'; len = l' } in b)
made p l f p' l' f' ep ef el = rw (ep, ef, el) refl

parts : (port : ℕ) (flow : Option ℕ) (len : ℕ) → port < 2 ^ 16 → IfSome flow (λ f. f < 2 ^ 32) → len < 2 ^ 32 → ReadsBack (record { port = port; flow = flow; len = len })
parts port None len p f l = record {
  whole = refl;
  same = made _ _ _ _ _ _ (from_be_bytes-to_be_bytes_2 port p) refl (from_be_bytes-to_be_bytes_4 len l);
  valid = λ most. ap (λ n. nat_le n most) (from_be_bytes-to_be_bytes_4 len l);
}
parts port (Some flow) len p f l = record {
  whole = refl;
  same = made _ _ _ _ _ _ (from_be_bytes-to_be_bytes_2 port p) (ap (λ n. Some n) (from_be_bytes-to_be_bytes_4 flow f)) (from_be_bytes-to_be_bytes_4 len l);
  valid = λ most. ap (λ n. nat_le n most) (from_be_bytes-to_be_bytes_4 len l);
}

pub reads_back : (h : Header) → Fits h → ReadsBack h
reads_back h fits = parts h.port h.flow h.len fits.port fits.flow fits.len
