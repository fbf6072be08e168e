-- The records that a device hasn't sent, of the transfers that wait for it and of later outputs.
use Rattle.std.proofs.Common.{◌≡◌, ℕ, zero, suc, ◌+◌, ◌-◌, ◌<◌, ◌≤◌, ◌⊎◌, inl, inr, ⊎_elim, List, [], ◌∷◌, ◌++◌, length, take, drop, get_or, append-nil, append_assoc, refl, sym, ap, ap₂, subst, ◌∙◌, arith}
use Rattle.std.specs.Prelude.{Option, Some, None, ⊤, All}
use Rattle.std.specs.List.{Any}
use Rattle.std.proofs.lemmas.Bool.{cases_lt}
use Rattle.std.proofs.lemmas.List.{length-append, length-take-le, length-drop, take_all, take-append-drop, get_or-take, get_or-drop, get_or_append_left, get_or-append_right, drop-append-le, drop-take}
use Rattle.std.proofs.lemmas.List.Elements.{All-head, All-tail}
use Rattle.genie_base.specs.Bytes.{part}
use Rattle.genie_base.specs.Records.{header_len, header_bytes}
use Rattle.genie_base.specs.declared.semantics.Class.{Class}
use Rattle.genie_base.specs.declared.semantics.Class.TheVariants.{Copy, Share, Move, WeakMove}
use Rattle.genie_model.specs.State.{State, Transfer}
use Rattle.genie_model.specs.Sending.{named_bytes, record_of, unsent, after_staging}
use Rattle.genie_orderly.specs.Orderly.{Lies, IsOrderly}
use Rattle.genie_laws.specs.Integrity.{Accepted, Stood, HasPayload, ArePayloads, records}
use Rattle.genie_laws.proofs.Outputs.Ranges.{Stands, IsNamed, stands}

-- what a transfer that waits keeps: all bytes of its call, or those that are staged
abbrev pub HasBytes : Transfer → Class → Type 0
HasBytes t Copy = length t.payload ≡ t.len
HasBytes t Share = (length t.payload ≡ t.staged) × IsNamed t.region
HasBytes t Move = length t.payload ≡ t.len
HasBytes t WeakMove = (length t.payload ≡ t.staged) × IsNamed t.region

pub record Waits (t : Transfer) : Type 0 where
  pub moved : t.moved ≤ header_len t.flow + t.len
  pub staged : t.staged ≤ t.len
  pub bytes : HasBytes t t.class

-- nothing is sent of any but the first
abbrev pub AreUnsent : List Transfer → Type 0
AreUnsent [] = ⊤
AreUnsent (t ∷ ts) = Waits t × (t.moved ≡ 0) × AreUnsent ts

abbrev pub AreWaiting : List Transfer → Type 0
AreWaiting [] = ⊤
AreWaiting (t ∷ ts) = Waits t × AreUnsent ts

pub unsent_waiting : (ts : List Transfer) → AreUnsent ts → AreWaiting ts
unsent_waiting [] h = tt
unsent_waiting (t ∷ ts) h = (h.0, h.2)

unsent_more : (ts : List Transfer) (t : Transfer) → AreUnsent ts → Waits t → t.moved ≡ 0 → AreUnsent (ts ++ t ∷ [])
unsent_more [] t h w e = (w, e, tt)
unsent_more (u ∷ ts) t h w e = (h.0, h.1, unsent_more ts t h.2 w e)

pub waiting_more : (ts : List Transfer) (t : Transfer) → AreWaiting ts → Waits t → t.moved ≡ 0 → AreWaiting (ts ++ t ∷ [])
waiting_more [] t h w e = (w, tt)
waiting_more (u ∷ ts) t h w e = (h.0, unsent_more ts t h.1 w e)

-- a byte of a payload is sent, staged, or stands in one of these states
abbrev IsByte : Transfer → List State → List ℕ → ℕ → Type 0
IsByte t later p j = (header_len t.flow + j < t.moved) ⊎ (((j < t.staged) × (get_or p j 0 ≡ get_or t.payload j 0)) ⊎ Any (Stood t.region (t.offset + j) (get_or p j 0)) later)

pub record IsThere (t : Transfer) (later : List State) (p : List ℕ) : Type 0 where
  pub whole : length p ≡ t.len
  pub bytes : (j : ℕ) → j < t.len → IsByte t later p j

-- a payload of a transfer that waits
abbrev pub IsLeft : Transfer → List State → Class → List ℕ → Type 0
IsLeft t later Copy p = p ≡ t.payload
IsLeft t later Share p = IsThere t later p
IsLeft t later Move p = p ≡ t.payload
IsLeft t later WeakMove p = IsThere t later p

abbrev pub AreLeft : List State → List Transfer → List (List ℕ) → Type 0
AreLeft later [] [] = ⊤
AreLeft later (t ∷ ts) (p ∷ ps) = IsLeft t later t.class p × AreLeft later ts ps
AreLeft later ts ps = ⊥

-- their records
abbrev pub waiting : List Transfer → List (List ℕ) → List ℕ
waiting (t ∷ ts) (p ∷ ps) = record_of t p ++ waiting ts ps
waiting ts ps = []

-- how much of the first one's is sent
abbrev pub begun : List Transfer → ℕ
begun [] = 0
begun (t ∷ ts) = t.moved

-- what is sent in the end is what was sent and a front of the records of those that wait and of later outputs
pub record Leaves (q : List Transfer) (sent : List ℕ) (later : List State) (os : List Accepted) (all : List ℕ) : Type 0 where
  pub kept : List (List ℕ)
  pub are_left : AreLeft later q kept
  pub payloads : List (List ℕ)
  pub are : ArePayloads os payloads
  pub left : List ℕ
  pub front : sent ++ drop (begun q) (waiting q kept ++ records os payloads) ≡ all ++ left

-- the bytes of a strong one's range are as many as the call says
abbrev pub HasLength : Accepted → Class → Type 0
HasLength o Copy = length o.bytes ≡ o.len
HasLength o Share = ⊤
HasLength o Move = length o.bytes ≡ o.len
HasLength o WeakMove = ⊤

-- the accepted output of a new transfer
pub record IsCall (t : Transfer) (later : List State) (o : Accepted) : Type 0 where
  pub number : o.number ≡ t.number
  pub len : o.len ≡ t.len
  pub long : HasLength o o.class
  pub header : o.header ≡ header_bytes t.port t.flow t.len
  pub payload : (p : List ℕ) → IsLeft t later t.class p → HasPayload o.class o p

any_here : {P : State → Type 0} (s : State) (later : List State) → P s → Any P (s ∷ later)
any_here s later h = (0, s, omega arith, refl, h)

any_later : {P : State → Type 0} (s : State) (later : List State) → Any P later → Any P (s ∷ later)
any_later s later h = (suc h.0, h.1, omega (arith, h.2), h.3, h.4)

there_later : (s : State) (t : Transfer) (later : List State) (p : List ℕ) → IsThere t later p → IsThere t (s ∷ later) p
there_later s t later p h = record { whole = h.whole; bytes = λ j lt. ⊎_elim inl (λ h. inr (⊎_elim inl (λ h. inr (any_later s later h)) h)) (h.bytes j lt) }

left_later : (s : State) (t : Transfer) (later : List State) (class : Class) (p : List ℕ) → IsLeft t later class p → IsLeft t (s ∷ later) class p
left_later s t later Copy p h = h
left_later s t later Share p h = there_later s t later p h
left_later s t later Move p h = h
left_later s t later WeakMove p h = there_later s t later p h

are_later : (s : State) (later : List State) (q : List Transfer) (kept : List (List ℕ)) → AreLeft later q kept → AreLeft (s ∷ later) q kept
are_later s later [] [] h = tt
are_later s later (t ∷ q) (p ∷ kept) h = (left_later s t later t.class p h.0, are_later s later q kept h.1)
are_later s later [] (p ∷ kept) h = absurd h
are_later s later (t ∷ q) [] h = absurd h

-- where a step leaves those that wait
pub leaves_still : (s : State) (q : List Transfer) (sent : List ℕ) (later : List State) (os : List Accepted) (all : List ℕ) → Leaves q sent later os all → Leaves q sent (s ∷ later) os all
leaves_still s q sent later os all l = record { kept = l.kept; are_left = are_later s later q l.kept l.are_left; payloads = l.payloads; are = l.are; left = l.left; front = l.front }

-- the payloads of some and of one more
record Split (later : List State) (q : List Transfer) (t : Transfer) (kept : List (List ℕ)) : Type 0 where
  front : List (List ℕ)
  last : List ℕ
  are : AreLeft later q front
  is : IsLeft t later t.class last
  whole : waiting (q ++ t ∷ []) kept ≡ waiting q front ++ record_of t last

split : (later : List State) (q : List Transfer) (t : Transfer) (kept : List (List ℕ)) → AreLeft later (q ++ t ∷ []) kept → Split later q t kept
split later [] t [] h = absurd h
split later [] t (p ∷ []) h = record { front = []; last = p; are = tt; is = h.0; whole = append-nil (record_of t p) }
split later [] t (p ∷ r ∷ kept) h = absurd h.1
split later (u ∷ q) t [] h = absurd h
split later (u ∷ q) t (p ∷ kept) h =
    let rest = split later q t kept h.1 in
    record { front = p ∷ rest.front; last = rest.last; are = (h.0, rest.are); is = rest.is; whole = ap (λ l. record_of u p ++ l) rest.whole ∙ sym (append_assoc (record_of u p) (waiting q rest.front) (record_of t rest.last)) }

pub begun_more : (q : List Transfer) (t : Transfer) → t.moved ≡ 0 → begun (q ++ t ∷ []) ≡ begun q
begun_more [] t e = e
begun_more (u ∷ q) t e = refl

-- where it adds one
pub leaves_called : (s : State) (q : List Transfer) (t : Transfer) (o : Accepted) (sent : List ℕ) (later : List State) (os : List Accepted) (all : List ℕ) → t.moved ≡ 0 → IsCall t later o → Leaves (q ++ t ∷ []) sent later os all → Leaves q sent (s ∷ later) (o ∷ os) all
leaves_called s q t o sent later os all unmoved call l =
    let cut = split later q t l.kept l.are_left in
    let same : waiting q cut.front ++ ((o.header ++ cut.last) ++ records os l.payloads) ≡ waiting (q ++ t ∷ []) l.kept ++ records os l.payloads = rw (cut.whole, call.header) (simp append_assoc) in
    record {
      kept = cut.front;
      are_left = are_later s later q cut.front cut.are;
      payloads = cut.last ∷ l.payloads;
      are = (call.payload cut.last cut.is, l.are);
      left = l.left;
      front = ap₂ (λ n bytes. sent ++ drop n bytes) (sym (begun_more q t unmoved)) same ∙ l.front;
    }

-- where a step stages bytes of the first one
stage_byte : (s : State) (t : Transfer) (later : List State) (k : ℕ) (now p : List ℕ) → length t.payload ≡ t.staged → Stands s t.region (t.offset + t.staged) k now → (j : ℕ) → IsByte (after_staging k now t) later p j → IsByte t (s ∷ later) p j
stage_byte s t later k now p whole stand j h = ⊎_elim inl (λ h. inr (⊎_elim
    (λ staged. ⊎_elim
    (λ (old : j < t.staged). inl (old, staged.1 ∙ get_or_append_left t.payload now 0 j (omega arith)))
    (λ (new : t.staged ≤ j).
    let i : ℕ = j - t.staged in
    let place : t.offset + t.staged + i ≡ t.offset + j = omega arith in
    let byte : get_or now i 0 ≡ get_or p j 0 = sym (staged.1 ∙ get_or-append_right t.payload now t.staged j 0 whole new) in
    inr (any_here s later (subst (λ x. Stood t.region x (get_or p j 0) s) place (subst (λ b. Stood t.region (t.offset + t.staged + i) b s) byte (stand.each i (omega (arith, staged.0)))))))
    (cases_lt j t.staged))
    (λ h. inr (any_later s later h)) h)) h

-- what a step stages of a transfer: nothing, or the next bytes of its range as they stand
abbrev pub IsStaged : State → Transfer → ℕ → List ℕ → Class → Type 0
IsStaged s t k now Copy = now ≡ []
IsStaged s t k now Share = Stands s t.region (t.offset + t.staged) k now
IsStaged s t k now Move = now ≡ []
IsStaged s t k now WeakMove = Stands s t.region (t.offset + t.staged) k now

stage_there : (s : State) (t : Transfer) (later : List State) (k : ℕ) (now p : List ℕ) → length t.payload ≡ t.staged → Stands s t.region (t.offset + t.staged) k now → IsThere (after_staging k now t) later p → IsThere t (s ∷ later) p
stage_there s t later k now p whole stand h = record { whole = h.whole; bytes = λ j lt. stage_byte s t later k now p whole stand j (h.bytes j lt) }

stage_left : (s : State) (t : Transfer) (later : List State) (k : ℕ) (now p : List ℕ) (class : Class) → HasBytes t class → IsStaged s t k now class → IsLeft (after_staging k now t) later class p → IsLeft t (s ∷ later) class p
stage_left s t later k now p Copy has is h = rw is at h ∙ append-nil t.payload
stage_left s t later k now p Share has is h = stage_there s t later k now p has.0 is h
stage_left s t later k now p Move has is h = rw is at h ∙ append-nil t.payload
stage_left s t later k now p WeakMove has is h = stage_there s t later k now p has.0 is h

stage_bytes : (s : State) (t : Transfer) (k : ℕ) (now : List ℕ) (class : Class) → HasBytes t class → IsStaged s t k now class → HasBytes (after_staging k now t) class
stage_bytes s t k now Copy has is = rw (is, append-nil) has
stage_bytes s t k now Share has is = (length-append t.payload now ∙ ap₂ (λ a b. a + b) has.0 is.whole, has.1)
stage_bytes s t k now Move has is = rw (is, append-nil) has
stage_bytes s t k now WeakMove has is = (length-append t.payload now ∙ ap₂ (λ a b. a + b) has.0 is.whole, has.1)

pub stage_waits : (s : State) (t : Transfer) (k : ℕ) (now : List ℕ) → k ≤ t.len - t.staged → IsStaged s t k now t.class → Waits t → Waits (after_staging k now t)
stage_waits s t k now most is w = record { moved = w.moved; staged = let within = w.staged in omega (arith, most, within); bytes = stage_bytes s t k now t.class w.bytes is }

pub leaves_staged : (s : State) (t : Transfer) (rest : List Transfer) (k : ℕ) (now sent : List ℕ) (later : List State) (os : List Accepted) (all : List ℕ) → Waits t → IsStaged s t k now t.class
    → Leaves (after_staging k now t ∷ rest) sent later os all → Leaves (t ∷ rest) sent (s ∷ later) os all
leaves_staged s t rest k now sent later os all w is l = with_kept l.kept l.are_left l.front
  where
    with_kept : (kept : List (List ℕ)) → AreLeft later (after_staging k now t ∷ rest) kept → sent ++ drop t.moved (waiting (after_staging k now t ∷ rest) kept ++ records os l.payloads) ≡ all ++ l.left → Leaves (t ∷ rest) sent (s ∷ later) os all
    with_kept [] are front = absurd are
    with_kept (p ∷ kept) are front = record {
      kept = p ∷ kept;
      are_left = (stage_left s t later k now p t.class w.bytes is are.0, are_later s later rest kept are.1);
      payloads = l.payloads;
      are = l.are;
      left = l.left;
      front = front;
    }

-- what a step sends from: the bytes that the transfer keeps, or for a weak one also those of now
pub record IsSentFrom (s : State) (t : Transfer) (bytes : List ℕ) : Type 0 where
  pub whole : length bytes ≡ t.len
  pub each : (j : ℕ) → j < t.len → ((j < t.staged) × (get_or bytes j 0 ≡ get_or t.payload j 0)) ⊎ Stood t.region (t.offset + j) (get_or bytes j 0) s

abbrev pub Sends : State → Transfer → List ℕ → Class → Type 0
Sends s t bytes Copy = bytes ≡ t.payload
Sends s t bytes Share = IsSentFrom s t bytes
Sends s t bytes Move = bytes ≡ t.payload
Sends s t bytes WeakMove = IsSentFrom s t bytes

pub sends_whole : (s : State) (t : Transfer) (bytes : List ℕ) (class : Class) → HasBytes t class → Sends s t bytes class → length bytes ≡ t.len
sends_whole s t bytes Copy has is = ap length is ∙ has
sends_whole s t bytes Share has is = is.whole
sends_whole s t bytes Move has is = ap length is ∙ has
sends_whole s t bytes WeakMove has is = is.whole

sent_there : (s : State) (t : Transfer) (later : List State) (bytes : List ℕ) → IsSentFrom s t bytes → IsThere t (s ∷ later) bytes
sent_there s t later bytes is = record { whole = is.whole; bytes = λ j lt. ⊎_elim (λ h. inr (inl h)) (λ h. inr (inr (any_here s later h))) (is.each j lt) }

sent_left : (s : State) (t : Transfer) (later : List State) (bytes : List ℕ) (class : Class) → Sends s t bytes class → IsLeft t (s ∷ later) class bytes
sent_left s t later bytes Copy is = is
sent_left s t later bytes Share is = sent_there s t later bytes is
sent_left s t later bytes Move is = is
sent_left s t later bytes WeakMove is = sent_there s t later bytes is

-- the first bytes of one payload and the others of another one
abbrev spliced : ℕ → List ℕ → List ℕ → List ℕ
spliced a bytes p = take a bytes ++ drop a p

splice : (header bytes p : List ℕ) (c : ℕ) → header ++ spliced (c - length header) bytes p ≡ take c (header ++ bytes) ++ drop c (header ++ p)
splice [] bytes p c = let e : c - 0 ≡ c = omega arith in ap (λ m. spliced m bytes p) e
splice (x ∷ header) bytes p zero = let e : 0 - suc (length header) ≡ 0 = omega arith in ap (λ m. x ∷ (header ++ spliced m bytes p)) e
splice (x ∷ header) bytes p (suc c) = let e : suc c - suc (length header) ≡ c - length header = omega arith in ap (λ m. x ∷ (header ++ spliced m bytes p)) e ∙ ap (λ l. x ∷ l) (splice header bytes p c)

some_sent : (xs ys rest : List ℕ) (m k : ℕ) → m + k ≤ length xs → m + k ≤ length ys → part m k xs ++ drop (m + k) (ys ++ rest) ≡ drop m ((take (m + k) xs ++ drop (m + k) ys) ++ rest)
some_sent xs ys rest m k l h =
    let short : length (take (m + k) xs) ≡ m + k = length-take-le (m + k) xs l in
    ap₂ ◌++◌ (sym (drop-take m k xs)) (drop-append-le (m + k) ys rest h) ∙ sym (drop-append-le m (take (m + k) xs) (drop (m + k) ys ++ rest) (omega arith)) ∙ ap (drop m) (sym (append_assoc (take (m + k) xs) (drop (m + k) ys) rest))

all_sent : (xs rest : List ℕ) (m k : ℕ) → m ≤ length xs → length xs ≤ m + k → part m k xs ++ rest ≡ drop m (xs ++ rest)
all_sent xs rest m k l h = let short : length (drop m xs) ≤ k = omega (arith, length-drop m xs) in ap (λ l. l ++ rest) (take_all k (drop m xs) short) ∙ sym (drop-append-le m xs rest l)

pub header_length : (port : ℕ) (flow : Option ℕ) (len : ℕ) → length (header_bytes port flow len) ≡ header_len flow
header_length port None len = refl
header_length port (Some flow) len = refl

-- with k bytes more of its record sent
abbrev pub moved_on : ℕ → Transfer → Transfer
moved_on k t = record t { moved = t.moved + k }

-- where a step sends some bytes of the first one's record
module _ (s : State) (t : Transfer) (later : List State) (k : ℕ) (bytes : List ℕ) (w : Waits t) (less : k < unsent t) where
  abbrev header : List ℕ
  header = header_bytes t.port t.flow t.len

  abbrev reached : ℕ
  reached = t.moved + k - length header

  within : t.moved + k ≤ length header + t.len
  within = let moved = w.moved in omega (arith, less, moved, header_length t.port t.flow t.len)

  part_there : (p : List ℕ) → IsSentFrom s t bytes → IsThere (moved_on k t) later p → IsThere t (s ∷ later) (spliced reached bytes p)
  part_there p is h =
      let a : ℕ = reached in
      let inside : t.moved + k ≤ length header + t.len = within in
      let whole = is.whole in
      let same = h.whole in
      let long : length (take a bytes) ≡ a = length-take-le a bytes (omega arith) in
      record {
        whole = length-append (take a bytes) (drop a p) ∙ omega (arith, long, length-drop a p);
        bytes = λ j lt. ⊎_elim
            (λ (below : j < a).
            let byte : get_or (spliced a bytes p) j 0 ≡ get_or bytes j 0 = get_or_append_left (take a bytes) (drop a p) 0 j (omega arith) ∙ get_or-take a bytes j 0 below in
            subst (λ b. (header_len t.flow + j < t.moved) ⊎ (((j < t.staged) × (b ≡ get_or t.payload j 0)) ⊎ Any (Stood t.region (t.offset + j) b) (s ∷ later))) (sym byte)
            (⊎_elim (λ h. inr (inl h)) (λ h. inr (inr (any_here s later h))) (is.each j lt)))
            (λ (above : a ≤ j).
            let place : a + (j - a) ≡ j = omega arith in
            let byte : get_or (spliced a bytes p) j 0 ≡ get_or p j 0 = get_or-append_right (take a bytes) (drop a p) a j 0 long above ∙ get_or-drop a p (j - a) 0 ∙ ap (λ i. get_or p i 0) place in
            subst (λ b. (header_len t.flow + j < t.moved) ⊎ (((j < t.staged) × (b ≡ get_or t.payload j 0)) ⊎ Any (Stood t.region (t.offset + j) b) (s ∷ later))) (sym byte)
            (⊎_elim (λ early. absurd (omega (arith, early, header_length t.port t.flow t.len))) (λ h. inr (⊎_elim inl (λ h. inr (any_later s later h)) h)) (h.bytes j lt)))
            (cases_lt j a);
      }

  part_same : (p payload : List ℕ) → bytes ≡ payload → p ≡ payload → spliced reached bytes p ≡ payload
  part_same p payload b e = rw (b, e) (take-append-drop reached payload)

  part_left : (p : List ℕ) (class : Class) → Sends s t bytes class → IsLeft (moved_on k t) later class p → IsLeft t (s ∷ later) class (spliced reached bytes p)
  part_left p Copy is h = part_same p t.payload is h
  part_left p Share is h = part_there p is h
  part_left p Move is h = part_same p t.payload is h
  part_left p WeakMove is h = part_there p is h

  left_whole : (p : List ℕ) (class : Class) → HasBytes t class → IsLeft (moved_on k t) later class p → length p ≡ t.len
  left_whole p Copy has h = ap length h ∙ has
  left_whole p Share has h = h.whole
  left_whole p Move has h = ap length h ∙ has
  left_whole p WeakMove has h = h.whole

  pub leaves_part : (rest : List Transfer) (sent : List ℕ) (os : List Accepted) (all : List ℕ) → Sends s t bytes t.class
      → Leaves (moved_on k t ∷ rest) (sent ++ part t.moved k (record_of t bytes)) later os all → Leaves (t ∷ rest) sent (s ∷ later) os all
  leaves_part rest sent os all is l = with_kept l.kept l.are_left l.front
    where
      with_kept : (kept : List (List ℕ)) → AreLeft later (moved_on k t ∷ rest) kept
          → (sent ++ part t.moved k (record_of t bytes)) ++ drop (t.moved + k) (waiting (moved_on k t ∷ rest) kept ++ records os l.payloads) ≡ all ++ l.left → Leaves (t ∷ rest) sent (s ∷ later) os all
      with_kept [] are front = absurd are
      with_kept (p ∷ kept) are front =
          let xs : List ℕ = record_of t bytes in
          let ys : List ℕ = record_of t p in
          let next : List ℕ = waiting rest kept in
          let after : List ℕ = records os l.payloads in
          let inside : t.moved + k ≤ length header + t.len = within in
          let one : t.moved + k ≤ length xs = omega (arith, length-append header bytes, sends_whole s t bytes t.class w.bytes is) in
          let other : t.moved + k ≤ length ys = omega (arith, length-append header p, left_whole p t.class w.bytes are.0) in
          record {
            kept = spliced reached bytes p ∷ kept;
            are_left = (part_left p t.class is are.0, are_later s later rest kept are.1);
            payloads = l.payloads;
            are = l.are;
            left = l.left;
            front = ap (λ y. sent ++ drop t.moved ((y ++ next) ++ after)) (splice header bytes p (t.moved + k))
                ∙ ap (λ y. sent ++ drop t.moved y) (append_assoc (take (t.moved + k) xs ++ drop (t.moved + k) ys) next after)
                ∙ ap (λ y. sent ++ y) (sym (some_sent xs ys (next ++ after) t.moved k one other))
                ∙ ap (λ y. sent ++ (part t.moved k xs ++ drop (t.moved + k) y)) (sym (append_assoc ys next after))
                ∙ sym (append_assoc sent (part t.moved k xs) _) ∙ front;
          }

pub begun_none : (rest : List Transfer) → AreUnsent rest → begun rest ≡ 0
begun_none [] h = refl
begun_none (t ∷ rest) h = h.1

-- where it sends all that is left of it
pub leaves_last : (s : State) (t : Transfer) (rest : List Transfer) (bytes sent : List ℕ) (later : List State) (os : List Accepted) (all : List ℕ) → Waits t → AreUnsent rest → Sends s t bytes t.class
    → Leaves rest (sent ++ part t.moved (unsent t) (record_of t bytes)) later os all → Leaves (t ∷ rest) sent (s ∷ later) os all
leaves_last s t rest bytes sent later os all w others is l =
    let xs : List ℕ = record_of t bytes in
    let moved = w.moved in
    let whole : length xs ≡ header_len t.flow + t.len = omega (arith, length-append (header_bytes t.port t.flow t.len) bytes, header_length t.port t.flow t.len, sends_whole s t bytes t.class w.bytes is) in
    record {
      kept = bytes ∷ l.kept;
      are_left = (sent_left s t later bytes t.class is, are_later s later rest l.kept l.are_left);
      payloads = l.payloads;
      are = l.are;
      left = l.left;
      front = ap (λ y. sent ++ drop t.moved y) (append_assoc xs (waiting rest l.kept) (records os l.payloads))
          ∙ ap (λ y. sent ++ y) (sym (all_sent xs (waiting rest l.kept ++ records os l.payloads) t.moved (unsent t) (omega arith) (omega arith)))
          ∙ sym (append_assoc sent (part t.moved (unsent t) xs) _)
          ∙ ap (λ n. (sent ++ part t.moved (unsent t) xs) ++ drop n (waiting rest l.kept ++ records os l.payloads)) (sym (begun_none rest others)) ∙ l.front;
    }

-- in the last state the payload of each is chosen from what it keeps and what stands now
there_now : (s : State) (t : Transfer) → IsOrderly s → Lies s t t.region → IsNamed t.region → IsThere t (s ∷ []) (named_bytes s t.region t.offset t.len)
there_now s t o lies named = let now = stands s t t.region o lies named t.offset t.len (omega arith) (omega arith) in record { whole = now.whole; bytes = λ j lt. inr (inr (any_here s [] (now.each j lt))) }

left_now : (s : State) (t : Transfer) → IsOrderly s → Lies s t t.region → (class : Class) → HasBytes t class → (p : List ℕ) × IsLeft t (s ∷ []) class p
left_now s t o lies Copy has = (t.payload, refl)
left_now s t o lies Share has = (named_bytes s t.region t.offset t.len, there_now s t o lies has.1)
left_now s t o lies Move has = (t.payload, refl)
left_now s t o lies WeakMove has = (named_bytes s t.region t.offset t.len, there_now s t o lies has.1)

are_now : (s : State) → IsOrderly s → (q : List Transfer) → All (λ (t : Transfer). Lies s t t.region) q → AreUnsent q → (kept : List (List ℕ)) × AreLeft (s ∷ []) q kept
are_now s o [] lies w = ([], tt)
are_now s o (t ∷ q) lies w =
    let first = left_now s t o (All-head (λ (t : Transfer). Lies s t t.region) t q lies) t.class w.0.bytes in
    let rest = are_now s o q (All-tail (λ (t : Transfer). Lies s t t.region) t q lies) w.2 in
    (first.0 ∷ rest.0, (first.1, rest.1))

first_now : (s : State) → IsOrderly s → (q : List Transfer) → All (λ (t : Transfer). Lies s t t.region) q → AreWaiting q → (kept : List (List ℕ)) × AreLeft (s ∷ []) q kept
first_now s o [] lies w = ([], tt)
first_now s o (t ∷ q) lies w =
    let first = left_now s t o (All-head (λ (t : Transfer). Lies s t t.region) t q lies) t.class w.0.bytes in
    let rest = are_now s o q (All-tail (λ (t : Transfer). Lies s t t.region) t q lies) w.1 in
    (first.0 ∷ rest.0, (first.1, rest.1))

pub leaves_now : (s : State) (q : List Transfer) (sent : List ℕ) → IsOrderly s → All (λ (t : Transfer). Lies s t t.region) q → AreWaiting q → Leaves q sent (s ∷ []) [] sent
leaves_now s q sent o lies w =
    let now = first_now s o q lies w in
    record { kept = now.0; are_left = now.1; payloads = []; are = tt; left = drop (begun q) (waiting q now.0 ++ []); front = refl }
