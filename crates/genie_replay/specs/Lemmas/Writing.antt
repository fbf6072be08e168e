-- Texts that are written one after the other, and a loop of writes: what was written so far, and what is left to write.
use Rattle.std.proofs.Common.{◌≡◌, ℕ, List, [], ◌∷◌, ◌++◌, take, drop, map, refl, ap, sym, ◌∙◌, append_assoc, append-nil, rules}
use Rattle.std.specs.Prelude.{Option, Some, None, Ok, flat_map}
use Rattle.std.proofs.lemmas.Grind.{common_steps}
use Rattle.std.specs.Io.KnownBytes.{Appends}
use Rattle.genie_host.specs.Host.{HostView, OnlyHandle, Writes}
use Rattle.genie_host.specs.OnlyHandle.{only_trans}
use Rattle.genie_replay.specs.Write.{AppendsUpToLast, EndsInLast}

pub appends_nothing : (k : Option (List ℕ)) → Appends k k []
appends_nothing None = tt
appends_nothing (Some xs) = sym (append-nil xs)

pub appends_more : (u v w : Option (List ℕ)) (xs ys : List ℕ) → Appends u v xs → Appends v w ys → Appends u w (xs ++ ys)
appends_more None v w xs ys a b = tt
appends_more (Some u) None w xs ys a b = absurd a
appends_more (Some u) (Some v) None xs ys a b = absurd b
appends_more (Some u) (Some v) (Some w) xs ys a b = b ∙ ap (λ (l : List ℕ). l ++ ys) a ∙ append_assoc u xs ys

-- all of the texts end in the last one
pub ends_all : {X : Type 0} (f : X → List ℕ) (xs : List X) → EndsInLast (flat_map f xs) (map f xs)
ends_all f [] = refl
ends_all f (x ∷ []) = ([], sym (append-nil (f x ++ []) ∙ append-nil (f x)))
ends_all f (x ∷ y ∷ xs) = (flat_map f (y ∷ xs), refl, ends_all f (y ∷ xs))

-- and so they do with a front of one text more
pub ends_more : {X : Type 0} (f : X → List ℕ) (xs : List X) (x : X) (front rest : List ℕ) → f x ≡ front ++ rest → EndsInLast (flat_map f xs ++ front) (map f (xs ++ x ∷ []))
ends_more f [] x front rest e = (rest, e)
ends_more f (y ∷ []) x front rest e = (front, ap (λ l. l ++ front) (append-nil (f y)), (rest, e))
ends_more f (y ∷ z ∷ xs) x front rest e = (flat_map f (z ∷ xs) ++ front, append_assoc (f y) (flat_map f (z ∷ xs)) front, ends_more f (z ∷ xs) x front rest e)

-- a whole text before them
pub up_to_behind : (u v w : Option (List ℕ)) (text : List ℕ) (texts : List (List ℕ)) → Appends u v text → AppendsUpToLast v w texts → AppendsUpToLast u w (text ∷ texts)
up_to_behind u v w text [] a b = (text ++ b.0, ([], sym (append-nil (text ++ b.0) ∙ ap (λ l. text ++ l) b.1 ∙ append-nil text)), appends_more u v w text b.0 a b.2)
up_to_behind u v w text (t ∷ ts) a b = (text ++ b.0, (b.0, refl, b.1), appends_more u v w text b.0 a b.2)

-- the bytes but for the rest were appended to the handle, and nothing else changed
pub record Written (k : ℕ) (old new : HostView) (bytes rest : List ℕ) : Type 0 where
  pub only : OnlyHandle k old new
  pub front : List ℕ
  pub split : bytes ≡ front ++ rest
  pub appended : Appends (old.handle k).bytes (new.handle k).bytes front
  pub count : (new.handle k).faults ≡ (old.handle k).faults

pub written_more : {E : Type 0} (k : ℕ) (u v w : HostView) (bytes rest : List ℕ) (n : ℕ) → Written k u v bytes rest → Writes {E = E} k v w (Ok n) rest → Written k u w bytes (drop n rest)
written_more k u v w bytes rest n so step = record {
  only = only_trans k u v w so.only step.only;
  front = so.front ++ take n rest;
  split = let cut : take n rest ++ drop n rest ≡ rest = search (rules, common_steps) in so.split ∙ ap (λ (l : List ℕ). so.front ++ l) (sym cut) ∙ sym (append_assoc so.front (take n rest) (drop n rest));
  appended = appends_more (u.handle k).bytes (v.handle k).bytes (w.handle k).bytes so.front (take n rest) so.appended step.bytes;
  count = step.cause.kept ∙ so.count;
}

pub written_to : {E : Type 0} (k : ℕ) (u v w : HostView) (bytes rest after : List ℕ) (n : ℕ) → Written k u v bytes rest → Writes {E = E} k v w (Ok n) rest → after ≡ drop n rest → Written k u w bytes after
written_to k u v w bytes rest after n so step e = rw e (written_more k u v w bytes rest n so step)
