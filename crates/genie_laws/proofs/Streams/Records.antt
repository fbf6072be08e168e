-- The records of a stream: headers that become whole, payloads that come in pieces, and one record more.
use Rattle.std.proofs.Common.{◌≡◌, ◌≢◌, ◌⊎◌, ⊎_elim, ℕ, zero, suc, ◌-◌, ◌≤◌, true, false, List, [], ◌∷◌, ◌++◌, length, take, drop, append-nil, append_assoc, refl, sym, ap, subst, ◌∙◌, leb-true, arith}
use Rattle.std.specs.Prelude.{◌==◌, ◌&&◌, Option, Some, slice_index}
use Rattle.std.specs.List.{Any}
use Rattle.std.proofs.lemmas.Bool.{cond_both, leb-false}
use Rattle.std.proofs.lemmas.List.{length-append, length-take, take_all, take-append-drop, get_or_append_left}
use Rattle.std.proofs.Math.Seq.{take-append_seam, drop-append_seam}
use Rattle.std.proofs.lemmas.List.Elements.{All-push}
use Rattle.genie_base.specs.Headers.{header_size, size_of_header, is_whole_header, header_taken, len_in}
use Rattle.genie_laws.specs.Streams.{Taken, IsHeader, Begins, Consists, WentElsewhere}
use Rattle.genie_laws.proofs.Inputs.Payloads.{whole_size}

-- a header that a step makes whole has its size and no more
pub whole_length : (n : ℕ) (gathered rest : List ℕ) → is_whole_header gathered ≡ false → is_whole_header (gathered ++ take (header_taken n gathered rest) rest) ≡ true → length (gathered ++ take (header_taken n gathered rest) rest) ≡ size_of_header (gathered ++ take (header_taken n gathered rest) rest)
whole_length n gathered rest part whole =
    let h : ℕ = header_taken n gathered rest in
    let header : List ℕ = gathered ++ take h rest in
    let enough = leb-true (size_of_header header) (length header) whole in
    omega (arith, enough, whole_size n gathered rest whole, short gathered (take h rest) part whole, length-append gathered (take h rest), length-take h rest)
  where
    least : (a b : ℕ) → 8 ≤ header_size a b
    least a b = cond_both ((a == 71) && (b == 69)) 12 8 (λ n. 8 ≤ n) (λ _. omega arith) (λ _. omega arith)

    short : (xs ys : List ℕ) → is_whole_header xs ≡ false → is_whole_header (xs ++ ys) ≡ true → length xs ≤ size_of_header (xs ++ ys)
    short [] ys part whole = omega arith
    short (x ∷ []) ys part whole = let some = least x (slice_index (x ∷ ys) 1) in omega (arith, some)
    short (x ∷ y ∷ xs) ys part whole = let less = leb-false (header_size x y) (length (x ∷ y ∷ xs)) part in omega (arith, less)

-- of a payload that comes in pieces the front that fits a buffer
pub take_on : (len : ℕ) (old new : List ℕ) → take len old ++ take (len - length old) new ≡ take len (old ++ new)
take_on zero [] new = refl
take_on (suc len) [] new = let all : suc len - 0 ≡ suc len = omega arith in ap (λ n. take n new) all
take_on zero (x ∷ old) new = let none : 0 - length (x ∷ old) ≡ 0 = omega arith in ap (λ n. take n new) none
take_on (suc len) (x ∷ old) new = let less : suc len - length (x ∷ old) ≡ len - length old = omega arith in ap (λ n. x ∷ (take len old ++ take n new)) less ∙ ap (λ l. x ∷ l) (take_on len old new)

-- the payload has come whole, or the stream has ended: the record begins so, and behind it is what is left
pub record Ended (header payload rest : List ℕ) : Type 0 where
  pub begins : (input : Option ℕ) → Begins (header ++ (payload ++ rest)) (record { header = header; payload = payload; input = input }) (payload ++ rest)
  pub left : drop (len_in header) (payload ++ rest) ≡ rest

pub ended : (header payload rest : List ℕ) → IsHeader header → length payload ≤ len_in header → (length payload ≡ len_in header) ⊎ (rest ≡ []) → Ended header payload rest
ended header payload rest valid most over =
    let both : (take (len_in header) (payload ++ rest) ≡ payload) × (drop (len_in header) (payload ++ rest) ≡ rest) = ⊎_elim
    (λ (same : length payload ≡ len_in header). (ap (λ n. take n (payload ++ rest)) (sym same) ∙ take-append_seam payload rest, ap (λ n. drop n (payload ++ rest)) (sym same) ∙ drop-append_seam payload rest))
    (λ (none : rest ≡ []). rw (none, append-nil payload) (take_all (len_in header) payload most, drop_none (len_in header) payload most)) over in
    record { begins = λ input. record { header = valid; split = refl; payload = sym both.0 }; left = both.1 }
  where
    drop_none : (n : ℕ) (xs : List ℕ) → length xs ≤ n → drop n xs ≡ []
    drop_none zero [] h = refl
    drop_none (suc n) [] h = refl
    drop_none zero (x ∷ xs) h = absurd (omega (arith, h))
    drop_none (suc n) (x ∷ xs) h = drop_none n xs (omega (arith, h))

-- a record more is taken
pub consists_more : (stream : List ℕ) (taken : List Taken) (r : Taken) (from behind : List ℕ) → Consists stream taken from → Begins from r behind → Consists stream (taken ++ r ∷ []) (drop (len_in r.header) behind)
consists_more stream [] r from behind h b = (behind, subst (λ x. Begins x r behind) (sym h) b, refl)
consists_more stream (q ∷ taken) r from behind h b = (h.0, h.1, consists_more (drop (len_in q.header) h.0) taken r from behind h.2 b)

-- some of what is left has come
pub come_on : (header payload rest : List ℕ) (b : ℕ) → header ++ (payload ++ rest) ≡ header ++ ((payload ++ take b rest) ++ drop b rest)
come_on header payload rest b = ap (λ l. header ++ l) (ap (λ l. payload ++ l) (sym (take-append-drop b rest)) ∙ sym (append_assoc payload (take b rest) (drop b rest)))

pub any_before : (P : Taken → Type 0) (taken : List Taken) (r : Taken) → Any P taken → Any P (taken ++ r ∷ [])
any_before P taken r h = (h.0, h.1, omega (arith, h.2, length-append taken (r ∷ [])), get_or_append_left taken (r ∷ []) h.1 h.0 h.2 ∙ h.3, h.4)

pub elsewhere_more : (taken : List Taken) (r : Taken) (k : ℕ) → WentElsewhere taken k → r.input ≢ Some k → WentElsewhere (taken ++ r ∷ []) k
elsewhere_more taken r k h other = All-push (λ (q : Taken). q.input ≢ Some k) taken r h other
