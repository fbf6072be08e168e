-- What every value of `Frames` keeps, from call to call.
use Rattle.std.proofs.Common.{◌≡◌, ℕ, ◌<◌, ◌≤◌, Bool, true, false, List, [], ◌∷◌, ◌++◌, refl, arith, ap, length, set, get_or, sym, ◌∙◌, take, drop, inl, inr, subst, length-set}
use Rattle.std.specs.Prelude.{◌⊎◌, ◌||◌, if◌then◌else◌, nat_lt, IsTrue, replicate}
use Rattle.std.proofs.lemmas.List.{set-get_or, length-replicate, get_or-replicate}
use Rattle.std.proofs.lemmas.List.Elements.{All-set, All-replicate}
use Rattle.genie_frame.specs.declared.frame.Owner.{Owner}
use Rattle.genie_frame.specs.declared.frame.Owner.TheVariants.{Free, Page, System, Pool, Nobody}
use Rattle.genie_frame.specs.declared.frame.Counts.{Counts}
use Rattle.std.proofs.lemmas.Bool.{cases_lt}
use Rattle.genie_frame.specs.FrameTable.{is_free, is_owned, is_lent, no_counts, Agree, AreLoansOwned, AreLentKept}
use Rattle.genie_frame.specs.Frames.{IsKept, unowned, left_to}
use Rattle.genie_base.specs.FreeLists.{IsFreeList}
use Rattle.genie_base.specs.Lemmas.Places.{set_at, any_default, past_end}
use Rattle.genie_base.specs.Counts.{is_page_size}
use Rattle.genie_base.specs.Bytes.{overlaid}
use Rattle.genie_base.specs.Lemmas.Overlaid.{length-overlaid}
use Rattle.genie_base.specs.Lemmas.Runs.{refilled}
use Rattle.genie_base.specs.Lemmas.FreeLists.{listed_set, one_spare, popped, last_there, last_free}

pub owned_agrees : (o : Owner) (c : Counts) → is_owned o ≡ true → Agree o c
owned_agrees Free c e = cc
owned_agrees (Page p) c e = record { free = λ h. cc; nobody = λ h. cc }
owned_agrees (System t) c e = record { free = λ h. cc; nobody = λ h. cc }
owned_agrees (Pool d) c e = record { free = λ h. cc; nobody = λ h. cc }
owned_agrees Nobody c e = cc

pub owned_taken : (o : Owner) → is_owned o ≡ true → is_free o ≡ false
owned_taken Free e = cc
owned_taken (Page p) e = refl
owned_taken (System t) e = refl
owned_taken (Pool d) e = refl
owned_taken Nobody e = cc

pub unowned_agrees : (c : Counts) (b : Bool) → is_lent c ≡ b → Agree (if b then Nobody else Free) c
unowned_agrees c true e = record { free = λ h. cc; nobody = λ h. e }
unowned_agrees c false e = record { free = λ h. e; nobody = λ h. cc }

-- a loan on a frame ends, and its owner stays or, where it is nobody, may be free
pub left_agrees : (o : Owner) (before left : Counts) → is_lent before ≡ true → Agree o before → Agree (left_to o left) left
left_agrees Free before left l a = let bad : true ≡ false = sym l ∙ a.free refl in cc
left_agrees (Page p) before left l a = owned_agrees (Page p) left refl
left_agrees (System t) before left l a = owned_agrees (System t) left refl
left_agrees (Pool d) before left l a = owned_agrees (Pool d) left refl
left_agrees Nobody before left l a = unowned_agrees left (is_lent left) refl

pub loans_set : (owners : List Owner) (counts : List Counts) (f : ℕ) (o : Owner) (c : Counts) → f < length owners → f < length counts → Agree o c → AreLoansOwned owners counts → AreLoansOwned (set owners f o) (set counts f c)
loans_set owners counts f o c there counted a s g = elim (set_at owners f g o Free there) [
  | inl v ↦ elim (set_at counts f g c no_counts counted) [
    | inl w ↦ rw (v.1, w.1) a
    | inr w ↦ absurd (w.0 v.0)
  ]
  | inr v ↦ elim (set_at counts f g c no_counts counted) [
    | inl w ↦ absurd (v.0 w.0)
    | inr w ↦ rw (v.1, w.1) (s g)
  ]
]

module _ (page : ℕ) (owners : List Owner) (counts : List Counts) (bytes : List (List ℕ)) (free : List ℕ) (room : ℕ) (f : ℕ) (there : f < length owners) (kept : IsKept page owners counts bytes free room) where
  counted : f < length counts
  counted = omega (arith, kept.shaped.counted)

  -- a frame's bytes change
  pub kept_bytes : (new : List ℕ) → length new ≡ page → IsKept page owners counts (set bytes f new) free room
  kept_bytes new size = record {
    shaped = record {
      size = kept.shaped.size;
      some = kept.shaped.some;
      most = kept.shaped.most;
      counted = kept.shaped.counted;
      filled = length-set bytes f new ∙ kept.shaped.filled;
      paged = All-set (λ b. length b ≡ page) bytes f new size kept.shaped.paged;
    };
    loans = kept.loans;
    list = kept.list;
    spare = kept.spare;
  }

  -- a frame's bytes change, and not how many they are
  pub kept_size : (old new : List ℕ) → old ≡ get_or bytes f old → length new ≡ length old → IsKept page owners counts (set bytes f new) free room
  kept_size old new is size = kept_bytes new (size ∙ ap length is ∙ kept.shaped.paged f old (omega (arith, kept.shaped.filled)))

  -- the same, through a slice of all frames
  pub kept_copied : (n x : ℕ) (new : List ℕ) (frames all : List (List ℕ)) → all ≡ bytes → length all ≡ n → frames ≡ set all f (overlaid x new (get_or all f [])) → IsKept page owners counts (take n (frames ++ drop (length frames) bytes)) free room
  kept_copied n x new frames all same size e =
      let made : frames ≡ set bytes f (overlaid x new (get_or bytes f [])) = e ∙ ap (λ xs. set xs f (overlaid x new (get_or xs f []))) same in
      let r : take n (frames ++ drop (length frames) bytes) ≡ frames = refilled n bytes frames (sym size ∙ ap length same) (ap length made ∙ length-set bytes f (overlaid x new (get_or bytes f []))) in
      rw (r, made) (kept_bytes _ (length-overlaid x new (get_or bytes f []) ∙ kept.shaped.paged f [] (omega (arith, kept.shaped.filled))))

  -- a frame's counts change
  pub kept_counts : (c : Counts) → Agree (get_or owners f Free) c → IsKept page owners (set counts f c) bytes free room
  kept_counts c a = record {
    shaped = record {
      size = kept.shaped.size;
      some = kept.shaped.some;
      most = kept.shaped.most;
      counted = length-set counts f c ∙ kept.shaped.counted;
      filled = kept.shaped.filled;
      paged = kept.shaped.paged;
    };
    loans = subst (λ xs. AreLoansOwned xs (set counts f c)) (set-get_or owners f Free) (loans_set owners counts f (get_or owners f Free) c there counted a kept.loans);
    list = kept.list;
    spare = kept.spare;
  }

  -- a frame that wasn't free gets another owner
  pub kept_owner : (o : Owner) (c : Counts) → is_free (get_or owners f Free) ≡ false → Agree o c → IsKept page (set owners f o) (set counts f c) bytes (if is_free o then free ++ f ∷ [] else free) room
  kept_owner o c old a = record {
    shaped = record {
      size = kept.shaped.size;
      some = omega (arith, length-set owners f o, kept.shaped.some);
      most = omega (arith, length-set owners f o, kept.shaped.most);
      counted = length-set counts f c ∙ kept.shaped.counted ∙ sym (length-set owners f o);
      filled = kept.shaped.filled ∙ sym (length-set owners f o);
      paged = kept.shaped.paged;
    };
    loans = loans_set owners counts f o c there counted a kept.loans;
    list = listed_set is_free Nobody owners free f o there (ap is_free (any_default owners f Nobody Free there) ∙ old) kept.list (is_free o) refl;
    spare = omega (arith, length-set owners f o, kept.spare);
  }

  pub spare_place : is_free (get_or owners f Free) ≡ false → length free < room
  spare_place old = omega (arith, one_spare is_free Nobody owners free f Free there (ap is_free (any_default owners f Nobody Free there) ∙ old) kept.list, kept.spare)

-- an owner that stays, or is nobody, while a loan is out
pub lent_set : (owners : List Owner) (counts : List Counts) (f : ℕ) (o : Owner) (c : Counts) → f < length owners → (is_lent (get_or counts f no_counts) ≡ true → is_lent c ≡ true → (o ≡ get_or owners f Free) ⊎ (o ≡ Nobody)) → AreLentKept owners counts (set owners f o) (set counts f c)
lent_set owners counts f o c there keeps g l m = elim (set_at owners f g o Free there) [
  | inl v ↦ elim (cases_lt f (length counts)) [
    | inl k ↦ elim (set_at counts f g c no_counts k) [
      | inl w ↦
          let was : is_lent (get_or counts f no_counts) ≡ true = ap (λ n. is_lent (get_or counts n no_counts)) (sym v.0) ∙ l in
          let now : is_lent c ≡ true = sym (ap is_lent w.1) ∙ m in
          elim (keeps was now) [
            | inl e ↦ inl (v.1 ∙ e ∙ ap (λ n. get_or owners n Free) (sym v.0))
            | inr e ↦ inr (v.1 ∙ e)
          ]
      | inr w ↦ absurd (w.0 v.0)
    ]
    | inr k ↦ let none : false ≡ true = sym (ap is_lent (ap (λ n. get_or counts n no_counts) v.0 ∙ past_end counts f no_counts k)) ∙ l in cc
  ]
  | inr v ↦ inl v.1
]

-- the same for a free frame, which carries no loan, that gets an owner
pub lent_taken_one : (owners : List Owner) (counts : List Counts) (f : ℕ) (o : Owner) → f < length owners → is_lent (get_or counts f no_counts) ≡ false → AreLentKept owners counts (set owners f o) counts
lent_taken_one owners counts f o there none = subst (λ xs. AreLentKept owners counts (set owners f o) xs) (set-get_or counts f no_counts) (lent_set owners counts f o (get_or counts f no_counts) there (λ l m. let bad : true ≡ false = sym l ∙ none in cc))

-- whose a frame is while a loan is out on it
pub lent_left : (o : Owner) (left : Counts) → is_lent left ≡ true → (left_to o left ≡ o) ⊎ (left_to o left ≡ Nobody)
lent_left Free left l = inl refl
lent_left (Page p) left l = inl refl
lent_left (System t) left l = inl refl
lent_left (Pool d) left l = inl refl
lent_left Nobody left l = inr (rw l refl)

pub lent_unowned : (c : Counts) → is_lent c ≡ true → unowned c ≡ Nobody
lent_unowned c l = rw l refl

pub lent_taken : (o : Owner) (c : Counts) → is_lent c ≡ true → Agree o c → is_free o ≡ false
lent_taken Free c l a = let bad : true ≡ false = sym l ∙ a.free refl in cc
lent_taken (Page p) c l a = refl
lent_taken (System t) c l a = refl
lent_taken (Pool d) c l a = refl
lent_taken Nobody c l a = refl

-- counts of the same loans
pub wired_agrees : (o : Owner) (before c : Counts) → c.strong ≡ before.strong → c.weak ≡ before.weak → c.input ≡ before.input → Agree o before → Agree o c
wired_agrees o before c s w n a =
    let same : is_lent c ≡ is_lent before = λ i. nat_lt 0 (s i) || nat_lt 0 (w i) || nat_lt 0 (n i) in
    record { free = λ h. same ∙ a.free h; nobody = λ h. same ∙ a.nobody h }

-- the last frame of the free list gets an owner
pub kept_taken : (page : ℕ) (owners : List Owner) (counts : List Counts) (bytes : List (List ℕ)) (free rest : List ℕ) (f room : ℕ) (o : Owner) → IsKept page owners counts bytes free room → free ≡ rest ++ f ∷ [] → is_owned o ≡ true → IsKept page (set owners f o) counts bytes rest room
kept_taken page owners counts bytes free rest f room o kept e owned =
    let list : IsFreeList is_free Nobody owners (rest ++ f ∷ []) = subst (λ xs. IsFreeList is_free Nobody owners xs) e kept.list in
    let there : f < length owners = last_there is_free Nobody refl owners rest f list in
    let counted : f < length counts = omega (arith, kept.shaped.counted) in
    record {
      shaped = record {
        size = kept.shaped.size;
        some = omega (arith, length-set owners f o, kept.shaped.some);
        most = omega (arith, length-set owners f o, kept.shaped.most);
        counted = kept.shaped.counted ∙ sym (length-set owners f o);
        filled = kept.shaped.filled ∙ sym (length-set owners f o);
        paged = kept.shaped.paged;
      };
      loans = subst (λ xs. AreLoansOwned (set owners f o) xs) (set-get_or counts f no_counts) (loans_set owners counts f o (get_or counts f no_counts) there counted (owned_agrees o _ owned) kept.loans);
      list = popped is_free Nobody refl owners rest f list o (owned_taken o owned);
      spare = omega (arith, length-set owners f o, kept.spare);
    }

-- all frames are free
pub kept_new : (n page room : ℕ) (free : List ℕ) (owners : List Owner) (counts : List Counts) (bytes : List (List ℕ)) → 1 ≤ n → n ≤ 4096 → IsTrue (is_page_size page) → owners ≡ replicate n Free → counts ≡ replicate n no_counts → bytes ≡ replicate n (replicate page 0) → IsFreeList is_free Nobody (replicate n Free) free → n ≤ room → IsKept page owners counts bytes free room
kept_new n page room free owners counts bytes some most size o c b list spare = rw (o, c, b) (record {
  shaped = record {
    size = size;
    some = omega (arith, length-replicate n Free);
    most = omega (arith, length-replicate n Free);
    counted = length-replicate n no_counts ∙ sym (length-replicate n Free);
    filled = length-replicate n (replicate page 0) ∙ sym (length-replicate n Free);
    paged = All-replicate (λ b. length b ≡ page) n (replicate page 0) (length-replicate page 0);
  };
  loans = λ f. elim (cases_lt f n) [
    | inl l ↦ rw (get_or-replicate n f Free Free l, get_or-replicate n f no_counts no_counts l) (record { free = λ e. refl; nobody = λ e. cc })
    | inr l ↦ rw (past_end (replicate n Free) f Free (omega (arith, length-replicate n Free)), past_end (replicate n no_counts) f no_counts (omega (arith, length-replicate n no_counts))) (record { free = λ e. refl; nobody = λ e. cc })
  ];
  list = list;
  spare = omega (arith, length-replicate n Free);
})

free_is : (o : Owner) → is_free o ≡ true → o ≡ Free
free_is Free e = refl
free_is (Page p) e = cc
free_is (System t) e = cc
free_is (Pool d) e = cc
free_is Nobody e = cc

-- the last frame of the free list
pub last_in : (owners : List Owner) (free rest : List ℕ) (f : ℕ) → IsFreeList is_free Nobody owners free → free ≡ rest ++ f ∷ [] → f < length owners
last_in owners free rest f list e = last_there is_free Nobody refl owners rest f (subst (λ xs. IsFreeList is_free Nobody owners xs) e list)

pub last_owner : (owners : List Owner) (free rest : List ℕ) (f : ℕ) → IsFreeList is_free Nobody owners free → free ≡ rest ++ f ∷ [] → get_or owners f Free ≡ Free
last_owner owners free rest f list e = any_default owners f Free Nobody (last_in owners free rest f list e) ∙ free_is _ (last_free is_free Nobody refl owners rest f (subst (λ xs. IsFreeList is_free Nobody owners xs) e list))
