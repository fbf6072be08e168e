-- A frame that was lent strongly, the bytes of its page, and what it has once the loan has ended.
use Rattle.std.proofs.Common.{◌≡◌, ℕ, ◌<◌, ◌≤◌, true, [], arith, length, length-set, ap, refl, ◌∙◌, IsTrue}
use Rattle.std.proofs.lemmas.List.{get_or-set_same, length-take-le}
use Rattle.genie_base.specs.Bytes.{part}
use Rattle.genie_frame.specs.declared.frame.Counts.{Counts}
use Rattle.genie_frame.specs.declared.frame.Owner.{Owner}
use Rattle.genie_frame.specs.declared.frame.Owner.TheVariants.{Free, Page, System, Pool, Nobody}
use Rattle.genie_frame.specs.FrameTable.{FrameTable, IsShaped, bytes_at, counts_at, is_owned, no_counts, owner_at, set_counts}
use Rattle.genie_frame.specs.Frames.{left_to, loan_ended, one_output_less, one_strong_more, outputs}

-- an owner keeps its frame when a loan ends
owner_stays : (o : Owner) (left : Counts) → IsTrue (is_owned o) → left_to o left ≡ o
owner_stays Free left is = cc
owner_stays (Page p) left is = refl
owner_stays (System t) left is = refl
owner_stays (Pool d) left is = refl
owner_stays Nobody left is = cc

module _ (t : FrameTable) (f : ℕ) (there : f < length t.owners) (shaped : IsShaped t.page t.owners t.counts t.bytes) where
  abbrev pub more : Counts
  more = one_strong_more (counts_at t f)

  abbrev pub lent : FrameTable
  lent = set_counts t f more

  counted : f < length t.counts
  counted = omega (arith, there, shaped.counted)

  lent_counts : counts_at lent f ≡ more
  lent_counts = get_or-set_same t.counts f more no_counts counted

  pub is_out : 0 < outputs true (counts_at lent f)
  is_out = rw lent_counts (omega arith)

  pub part_whole : (n : ℕ) → n ≤ t.page → length (part 0 n (bytes_at lent f)) ≡ n
  part_whole n within = length-take-le n (bytes_at t f) (rw (shaped.paged f [] (omega (arith, there, shaped.filled))) within)

  -- the frames once the loan has ended
  abbrev pub back : FrameTable
  back = loan_ended lent f (one_output_less true (counts_at lent f))

  pub counts_back : counts_at back f ≡ counts_at t f
  counts_back =
      let within : f < length lent.counts = rw (length-set t.counts f more) counted in
      get_or-set_same lent.counts f (one_output_less true (counts_at lent f)) no_counts within
      ∙ ap (one_output_less true) lent_counts
      ∙ ap (λ n. record (counts_at t f) { strong = n }) (omega arith)

  pub owner_back : IsTrue (is_owned (owner_at t f)) → owner_at back f ≡ owner_at t f
  owner_back owned = get_or-set_same t.owners f (left_to (owner_at t f) (one_output_less true (counts_at lent f))) Free there ∙ owner_stays (owner_at t f) (one_output_less true (counts_at lent f)) owned
