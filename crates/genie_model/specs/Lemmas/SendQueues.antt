-- The transfers that wait for a device, in order, and what changes of the table of transfers leave of them.
use Rattle.std.proofs.Common.{◌≡◌, ℕ, ◌<◌, Bool, true, false, inl, inr, List, [], ◌∷◌, ◌++◌, map, filter, find, All, AllPairs, refl, sym, ap, subst, ◌∙◌, eqb-true, true≢false, arith}
use Rattle.std.specs.Prelude.{Some, None, if◌then◌else◌}
use Rattle.std.specs.List.{list_any}
use Rattle.std.proofs.lemmas.Bool.{cond_both, cond-true, cond-false, false_from_ne_true, or_from, or_right}
use Rattle.std.proofs.lemmas.List.Elements.{All-cons, All-head, All-tail}
use Rattle.genie_base.specs.Transfers.{is_strong}
use Rattle.genie_model.specs.State.{Transfer}
use Rattle.genie_model.specs.Tables.{change, without}
use Rattle.genie_model.specs.Pending.{is_numbered, waits_for}
use Rattle.genie_model.specs.Lemmas.Lists.{Has, pairs_head, pairs_tail}

-- without what an end of its process may change: its owner, and the region of a strong one
abbrev pub plain : Transfer → Transfer
plain t = record t { owner = None; region = if is_strong t.class then None else t.region }

module _ (d : ℕ) where
  abbrev pub queue : List Transfer → List Transfer
  queue [] = []
  queue (t ∷ ts) = if waits_for d t then plain t ∷ queue ts else queue ts

  queue_yes : (t : Transfer) (ts : List Transfer) → waits_for d t ≡ true → queue (t ∷ ts) ≡ plain t ∷ queue ts
  queue_yes t ts e = cond-true (waits_for d t) (plain t ∷ queue ts) (queue ts) e

  queue_no : (t : Transfer) (ts : List Transfer) → waits_for d t ≡ false → queue (t ∷ ts) ≡ queue ts
  queue_no t ts e = cond-false (waits_for d t) (plain t ∷ queue ts) (queue ts) e

  -- the first one, and the others
  queue_more : (t u : Transfer) (ts us : List Transfer) → plain u ≡ plain t → queue us ≡ queue ts → queue (u ∷ us) ≡ queue (t ∷ ts)
  queue_more t u ts us e h = let same : waits_for d u ≡ waits_for d t = ap (waits_for d) e in rw (same, e, h) refl

  pub queue-append : (ts us : List Transfer) → queue (ts ++ us) ≡ queue ts ++ queue us
  queue-append [] us = refl
  queue-append (t ∷ ts) us = cond_both (waits_for d t) (plain t ∷ queue ts) (queue ts) (λ l. queue (t ∷ (ts ++ us)) ≡ l ++ queue us)
      (λ e. queue_yes t (ts ++ us) e ∙ ap (λ l. plain t ∷ l) (queue-append ts us)) (λ e. queue_no t (ts ++ us) e ∙ queue-append ts us)

  pub queue_map : (f : Transfer → Transfer) → ((t : Transfer) → plain (f t) ≡ plain t) → (ts : List Transfer) → queue (map f ts) ≡ queue ts
  queue_map f h [] = refl
  queue_map f h (t ∷ ts) = queue_more t (f t) ts (map f ts) (h t) (queue_map f h ts)

  pub queue_filter : (p : Transfer → Bool) → ((t : Transfer) → p t ≡ false → waits_for d t ≡ false) → (ts : List Transfer) → queue (filter p ts) ≡ queue ts
  queue_filter p h [] = refl
  queue_filter p h (t ∷ ts) = cond_both (p t) (t ∷ filter p ts) (filter p ts) (λ l. queue l ≡ queue (t ∷ ts))
      (λ e. queue_more t t ts (filter p ts) refl (queue_filter p h ts)) (λ e. queue_filter p h ts ∙ sym (queue_no t ts (h t e)))

  -- the first that passes ends, and doesn't wait
  pub queue_without : (p : Transfer → Bool) (t : Transfer) → waits_for d t ≡ false → (ts : List Transfer) → find p ts ≡ Some t → queue (without p ts) ≡ queue ts
  queue_without p t idle [] e = refl
  queue_without p t idle (u ∷ ts) e = cond_both (p u) (Some u) (find p ts) (λ o. o ≡ Some t → queue (without p (u ∷ ts)) ≡ queue (u ∷ ts))
      (λ yes f. let same : u ≡ t = cc in let here : waits_for d u ≡ false = ap (waits_for d) same ∙ idle in rw yes (sym (queue_no u ts here)))
      (λ later f. rw later (queue_more u u ts (without p ts) refl (queue_without p t idle ts f))) e

  -- one that doesn't wait is changed, and doesn't wait then
  pub queue_change : (p : Transfer → Bool) (f : Transfer → Transfer) (ts : List Transfer) → ((t : Transfer) → Has t ts → p t ≡ true → (waits_for d t ≡ false) × (waits_for d (f t) ≡ false)) → queue (change p f ts) ≡ queue ts
  queue_change p f [] h = refl
  queue_change p f (t ∷ ts) h = cond_both (p t) (f t ∷ ts) (t ∷ change p f ts) (λ l. queue l ≡ queue (t ∷ ts))
      (λ e. let no = h t (inl refl) e in queue_no (f t) ts no.1 ∙ sym (queue_no t ts no.0))
      (λ e. queue_more t t ts (change p f ts) refl (queue_change p f ts (λ u has. h u (inr has))))

  -- the first one that waits
  pub record Begins (ts : List Transfer) (t : Transfer) : Type 0 where
    pub rest : List Transfer
    pub first : queue ts ≡ plain t ∷ rest
    pub stays : (f : Transfer → Transfer) → waits_for d (f t) ≡ true → queue (change (waits_for d) f ts) ≡ plain (f t) ∷ rest
    pub goes : (f : Transfer → Transfer) → waits_for d (f t) ≡ false → queue (change (waits_for d) f ts) ≡ rest

  pub begins : (ts : List Transfer) (t : Transfer) → find (waits_for d) ts ≡ Some t → Begins ts t
  begins [] t e = absurd (cc)
  begins (u ∷ ts) t e = cond_both (waits_for d u) (Some u) (find (waits_for d) ts) (λ o. o ≡ Some t → Begins (u ∷ ts) t)
      (λ yes f.
      let same : u ≡ t = cc in
      subst (Begins (u ∷ ts)) same (record {
        rest = queue ts;
        first = queue_yes u ts yes;
        stays = λ g there. rw yes (queue_yes (g u) ts there);
        goes = λ g gone. rw yes (queue_no (g u) ts gone);
      }))
      (λ no f.
      let later = begins ts t f in
      record {
        rest = later.rest;
        first = queue_no u ts no ∙ later.first;
        stays = λ g there. rw no (queue_no u (change (waits_for d) g ts) no ∙ later.stays g there);
        goes = λ g gone. rw no (queue_no u (change (waits_for d) g ts) no ∙ later.goes g gone);
      }) e

  pub queue_all : (P : Transfer → Type 0) → ((t : Transfer) → P t → P (plain t)) → (ts : List Transfer) → All P ts → All P (queue ts)
  queue_all P h [] a = a
  queue_all P h (t ∷ ts) a = let rest = queue_all P h ts (All-tail P t ts a) in cond_both (waits_for d t) (plain t ∷ queue ts) (queue ts) (All P) (λ _. All-cons P (plain t) (queue ts) (h t (All-head P t ts a)) rest) (λ _. rest)

  -- one that waits with number k is in the queue
  pub queue_has : (k : ℕ) (ts : List Transfer) (t : Transfer) → Has t ts → waits_for d t ≡ true → is_numbered k t ≡ true → list_any (is_numbered k) (queue ts) ≡ true
  queue_has k [] t h w e = absurd h
  queue_has k (u ∷ ts) t (inl h) w e = let here : waits_for d u ≡ true = ap (waits_for d) h ∙ w in let number : is_numbered k u ≡ true = ap (is_numbered k) h ∙ e in rw (here, number) refl
  queue_has k (u ∷ ts) t (inr h) w e =
      let later = queue_has k ts t h w e in
      cond_both (waits_for d u) (plain u ∷ queue ts) (queue ts) (λ l. list_any (is_numbered k) l ≡ true) (λ _. or_right (is_numbered k (plain u)) (list_any (is_numbered k) (queue ts)) later) (λ _. later)

  pub queue_none : (k : ℕ) (ts : List Transfer) → ((t : Transfer) → Has t ts → waits_for d t ≡ true → is_numbered k t ≡ true → ⊥) → list_any (is_numbered k) (queue ts) ≡ false
  queue_none k [] h = refl
  queue_none k (t ∷ ts) h =
      let later = queue_none k ts (λ u has. h u (inr has)) in
      cond_both (waits_for d t) (plain t ∷ queue ts) (queue ts) (λ l. list_any (is_numbered k) l ≡ false)
      (λ w. or_from (is_numbered k (plain t)) (list_any (is_numbered k) (queue ts)) (false_from_ne_true (is_numbered k t) (h t (inl refl) w)) later) (λ _. later)

-- no two transfers have one number
pub same_number : (ts : List Transfer) → AllPairs (λ (t u : Transfer). t.number < u.number) ts → (t u : Transfer) → Has t ts → Has u ts → t.number ≡ u.number → t ≡ u
same_number [] rise t u h g e = absurd h
same_number (v ∷ ts) rise t u (inl h) (inl g) e = sym h ∙ g
same_number (v ∷ ts) rise t u (inl h) (inr g) e = let up = pairs_head (λ (t u : Transfer). t.number < u.number) v ts rise u g in absurd (omega (arith, up, e, ap (λ (x : Transfer). x.number) h))
same_number (v ∷ ts) rise t u (inr h) (inl g) e = let up = pairs_head (λ (t u : Transfer). t.number < u.number) v ts rise t h in absurd (omega (arith, up, e, ap (λ (x : Transfer). x.number) g))
same_number (v ∷ ts) rise t u (inr h) (inr g) e = same_number ts (pairs_tail (λ (t u : Transfer). t.number < u.number) v ts rise) t u h g e

module _ (d : ℕ) where
  -- the number of one that doesn't wait is no number of the queue
  pub number_free : (ts : List Transfer) → AllPairs (λ (t u : Transfer). t.number < u.number) ts → (t : Transfer) → Has t ts → waits_for d t ≡ false → list_any (is_numbered t.number) (queue d ts) ≡ false
  number_free ts rise t has idle = queue_none d t.number ts (λ u there w e. let same = same_number ts rise u t there has (eqb-true u.number t.number e) in true≢false (sym w ∙ ap (waits_for d) same ∙ idle))

  -- what has a free number is changed
  pub queue_free : (k : ℕ) (f : Transfer → Transfer) (ts : List Transfer) → ((t : Transfer) → waits_for d t ≡ false → waits_for d (f t) ≡ false) → list_any (is_numbered k) (queue d ts) ≡ false → queue d (change (is_numbered k) f ts) ≡ queue d ts
  queue_free k f ts h free = queue_change d (is_numbered k) f ts (λ t has e.
      let no : waits_for d t ≡ false = false_from_ne_true (waits_for d t) (λ w. true≢false (sym (queue_has d k ts t has w e) ∙ free)) in
      (no, h t no))
