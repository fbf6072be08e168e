-- What a change of the first transfer that passes a test leaves of pairs.
use Rattle.std.proofs.Common.{◌≡◌, Bool, true, false, List, [], ◌∷◌, All, AllPairs}
use Rattle.std.proofs.lemmas.Bool.{cond_both}
use Rattle.std.proofs.lemmas.List.Elements.{All-weaker}
use Rattle.std.proofs.lemmas.List.Kept.{AllPairs-cons}
use Rattle.genie_model.specs.Tables.{change, without}
use Rattle.genie_model.specs.Lemmas.Lists.{pairs_all, pairs_tail}
use Rattle.genie_orderly.specs.Lemmas.ChangedTransfers.{all_passing}
use Rattle.genie_orderly.specs.Lemmas.NamingTransfers.{all_change, all_without}

module _ {X : Type 0} where
  -- of a pair the first one that passes the test is changed, and none before it passes
  pub pairs_first : (R : X → X → Type 0) (p : X → Bool) (f : X → X) → ((x y : X) → R x y → R (f x) y) → ((x y : X) → p x ≡ false → p y ≡ true → R x y → R x (f y)) → (xs : List X) → AllPairs R xs → AllPairs R (change p f xs)
  pairs_first R p f left right [] h = h
  pairs_first R p f left right (x ∷ xs) h =
      let here : All (R x) xs = pairs_all R x xs h in
      let rest : AllPairs R xs = pairs_tail R x xs h in
      cond_both (p x) (f x ∷ xs) (x ∷ change p f xs) (AllPairs R) (λ _. AllPairs-cons R (f x) xs (All-weaker (R x) (R (f x)) (λ y r. left x y r) xs here) rest)
      (λ n. AllPairs-cons R x (change p f xs) (all_passing (R x) p f (λ y q r. right x y n q r) xs here) (pairs_first R p f left right xs rest))

  pub pairs_without : (R : X → X → Type 0) (p : X → Bool) (xs : List X) → AllPairs R xs → AllPairs R (without p xs)
  pairs_without R p [] h = h
  pairs_without R p (x ∷ xs) h =
      let rest : AllPairs R xs = pairs_tail R x xs h in
      cond_both (p x) xs (x ∷ without p xs) (AllPairs R) (λ _. rest) (λ _. AllPairs-cons R x (without p xs) (all_without (R x) p xs (pairs_all R x xs h)) (pairs_without R p xs rest))

  pub pairs_change : (R : X → X → Type 0) (p : X → Bool) (f : X → X) → ((x y : X) → R x y → R (f x) y) → ((x y : X) → R x y → R x (f y)) → (xs : List X) → AllPairs R xs → AllPairs R (change p f xs)
  pairs_change R p f left right [] h = h
  pairs_change R p f left right (x ∷ xs) h =
      let here : All (R x) xs = pairs_all R x xs h in
      let rest : AllPairs R xs = pairs_tail R x xs h in
      cond_both (p x) (f x ∷ xs) (x ∷ change p f xs) (AllPairs R) (λ _. AllPairs-cons R (f x) xs (All-weaker (R x) (R (f x)) (λ y r. left x y r) xs here) rest)
      (λ _. AllPairs-cons R x (change p f xs) (all_change (R x) p f (λ y r. right x y r) xs here) (pairs_change R p f left right xs rest))
