-- A region more.
use Rattle.std.proofs.Common.{◌≡◌, ℕ, ◌+◌, ◌*◌, ◌<◌, true, false, List, [], ◌∷◌, refl, sym, ap, subst, arith, ◌∙◌, length, length-set, get_or-set_other, replicate}
use Rattle.std.specs.Prelude.{Option, Some, None, IsTrue, unwrap_or, count_by}
use Rattle.std.specs.List.{list_any}
use Rattle.genie_base.specs.Events.{is_whole, mark_of}
use Rattle.genie_base.specs.declared.event.Event.{Event}
use Rattle.genie_base.specs.declared.reply.Mark.TheVariants.{NoFault}
use Rattle.genie_base.specs.declared.reply.Reply.{Reply}
use Rattle.genie_hiding.specs.declared.hidden.Hidden.{Hidden}
use Rattle.genie_hiding.specs.Hidden.{is_of, objects_of}
use Rattle.genie_object.specs.declared.memory.Memory.{Memory}
use Rattle.genie_object.specs.declared.objects.Entry.{Entry}
use Rattle.genie_object.specs.Memory.{Seen, seen}
use Rattle.genie_object.specs.Objects.{object_at, no_entry, is_absent}
use Rattle.genie_object.specs.Sound.{IsSound}
use Rattle.genie_region.specs.declared.region.Region.{Region}
use Rattle.genie_space.specs.Spaces as spaces
use Rattle.genie_model.specs.Refusing.{refuse}
use Rattle.genie_model.specs.Regions.{fresh}
use Rattle.genie_model.specs.Space as space
use Rattle.genie_model.specs.Step.{Outcome, marked}
use Rattle.genie_model.specs.Tables.{entry}
use Rattle.genie_kernel.specs.declared.kernel.Kernel.{Kernel}
use Rattle.genie_kernel.specs.Calls.{names_weakly}
use Rattle.genie_kernel.specs.Good.{IsGood}
use Rattle.genie_kernel.specs.Regions.{object_bytes, owned_regions, region_view}
use Rattle.genie_kernel.specs.Steps.{Steps, bytes_over}
use Rattle.genie_kernel.specs.View.{Bytes, state_of, outline, no_bytes}
use Rattle.genie_kernel.specs.Lemmas.Fresh.{fresh_view, fresh_unnamed}
use Rattle.genie_kernel.specs.Lemmas.Keeping.{guards_kept}
use Rattle.genie_kernel.specs.Lemmas.Tidying.{tidy_view}
use Rattle.genie_changes.specs.Regions.{KeepsBytes, MakesObject, with_added}
use Rattle.genie_spaces.specs.Clearing.{Adds, Clears, HasRoom}
use Rattle.genie_spaces.specs.RegionLaws.{RegionLaws}
use Rattle.genie_spaces.specs.Serving.{IsServed}
use Rattle.genie_spaces.proofs.Keeping.{keeps_bytes}
use Rattle.genie_spaces.specs.Lemmas.Making.{made, absent_bytes, zero_bytes, seen_made, touches_made, hidden_made, held_made}

some_there : (es : List Entry) (n : ℕ) → length es ≡ n → 0 < n → is_absent es ≡ false
some_there [] n e l = absurd (omega (arith, e, l))
some_there (x ∷ es) n e l = refl

-- what is known of the region and of the event
pub record IsNewRegion (k : Kernel) (p : ℕ) (e : Event) (reply : Reply) (r : Region) : Type 0 where
  pub whole : IsTrue (is_whole e)
  pub accepted : refuse (outline k) e ≡ None
  pub regions : List Region
  pub there : entry k.spaces.processes p ≡ Some regions
  pub id : r.id.0 ≡ fresh (outline k)
  pub writable : r.writable ≡ true
  pub some : 0 < r.pages
  pub unfailed : mark_of reply ≡ NoFault
  pub performs : (b : Bytes) → marked (state_of k b) e (mark_of reply) ≡ (space.tidy (space.add_region (state_of k b) p (space.zeros (state_of k b) r.area r.state r.start r.pages)), reply)

module _ (laws : RegionLaws) (k : Kernel) (m : Memory) (hid : List Hidden) (p : ℕ) (e : Event) (reply : Reply) (r : Region) (good : IsGood k) (is : IsNewRegion k p e reply r) (c : Clears k (record k { memory = m; hidden = hid })) (room : HasRoom p (record k { memory = m; hidden = hid })) (absent : object_at m.objects r.object.0 ≡ []) (size : length (object_at (made m r.object.0 r.pages).objects r.object.0) ≡ r.pages) (sound : IsSound (made m r.object.0 r.pages)) where
  abbrev ps : List (Option (List Region))
  ps = k.spaces.processes

  abbrev os : List (List Entry)
  os = (made m r.object.0 r.pages).objects

  abbrev new_spaces : spaces.AddressSpaces
  new_spaces = spaces.set_regions k.spaces p (with_added r is.regions)

  abbrev after : Kernel
  after = record k { memory = made m r.object.0 r.pages; hidden = hid; spaces = new_spaces }

  unnamed : list_any (names_weakly r.id.0) k.transfers ≡ false
  unnamed = subst (λ n. list_any (names_weakly n) k.transfers ≡ false) (sym is.id) (fresh_unnamed k good.orderly)

  zeros_view : (old b : Bytes) → ((i : ℕ) → b.seen.entry_bytes r.object.0 i ≡ replicate k.config.page 0) → region_view b.seen.entry_bytes r ≡ space.zeros (state_of k old) r.area r.state r.start r.pages
  zeros_view old b blank =
      let number : r.id.0 ≡ fresh (state_of k old) = is.id ∙ sym (fresh_view k old) in
      let bytes : object_bytes b.seen.entry_bytes r.object.0 r.pages ≡ replicate (r.pages * k.config.page) 0 = zero_bytes b.seen.entry_bytes k.config.page r.object.0 0 r.pages blank in
      λ i. record { number = number i; start = r.start; pages = r.pages; area = r.area; state = r.state; writable = is.writable i; bytes = bytes i }

  steps : (old b : Bytes) → KeepsBytes k old b → ((i : ℕ) → b.seen.entry_bytes r.object.0 i ≡ replicate k.config.page 0) → Steps (state_of k old) e (state_of after b) reply
  steps old b keeps blank =
      let is_added : state_of after b ≡ space.add_region (state_of k old) p (space.zeros (state_of k old) r.area r.state r.start r.pages) = laws.added k (made m r.object.0 r.pages) new_spaces old b p r is.regions is.there refl unnamed keeps ∙ ap (space.add_region (state_of k old) p) (zeros_view old b blank) in
      record { state = sym (tidy_view after b) ∙ ap space.tidy is_added ∙ sym (ap (λ (o : Outcome). o.0) (is.performs old)); reply_is = sym (ap (λ (o : Outcome). o.1) (is.performs old)) }

  shows_same : (slots rests sents : ℕ → List ℕ) → KeepsBytes k (bytes_over k.memory slots rests sents) (bytes_over after.memory slots rests sents)
  shows_same slots rests sents = subst (λ (s : Seen). KeepsBytes k (bytes_over k.memory slots rests sents) (record { seen = s; rests = rests; sents = sents })) (sym (seen_made m r.object.0 r.pages absent slots)) (c.bytes slots rests sents)

  blank : (slots : ℕ → List ℕ) (i : ℕ) → (seen after.memory slots).entry_bytes r.object.0 i ≡ replicate k.config.page 0
  blank slots i = ap (λ (s : Seen). s.entry_bytes r.object.0 i) (seen_made m r.object.0 r.pages absent slots) ∙ absent_bytes m r.object.0 slots absent i ∙ ap (λ n. replicate n 0) c.good.sized.page

  makes : MakesObject r m.objects os
  makes = record {
    absent = ap is_absent absent;
    there = some_there (object_at os r.object.0) r.pages size is.some;
    long = size;
    others = λ o other. ap length (get_or-set_other m.objects r.object.0 o (replicate r.pages no_entry) [] other);
    absences = λ o other. ap is_absent (get_or-set_other m.objects r.object.0 o (replicate r.pages no_entry) [] other);
  }

  after_good : IsGood after
  after_good =
      let h = c.good in
      let blind = no_bytes k.config.page in
      let same : spaces.regions_of p k.spaces ≡ is.regions = ap (λ (o : Option (List Region)). unwrap_or o []) is.there in
      let few = subst (λ (l : List Region). length l + count_by (is_of p) hid < 32) same room in
      record {
        fits = h.fits;
        sized = record { page = h.sized.page; frames = h.sized.frames; slots = h.sized.slots; pages = h.sized.pages };
        spaced = record { page = good.spaced.page; processes = length-set ps p (Some (with_added r is.regions)) ∙ good.spaced.processes; queue_places = good.spaced.queue_places };
        equipped = good.equipped;
        orderly = laws.orderly (outline k) (outline after) e reply is.whole is.accepted (steps blind blind (keeps_bytes k blind) (λ i. refl)) good.orderly;
        sound = sound;
        cached = hidden_made m r.object.0 r.pages absent (objects_of hid) h.sound h.cached;
        few = laws.few_more ps hid p r is.regions is.there few h.few;
        backed = laws.backed_more m.objects os ps hid p r is.regions is.there is.some makes h.backed;
        guarded = laws.guarded_more os ps p r is.regions is.there (λ shut i. let no : true ≡ false = sym is.writable ∙ shut in absurd (cc)) (guards_kept (λ o i. false) m after.memory (owned_regions ps) (touches_made m r.object.0 r.pages absent) (λ j d l shut i. refl) h.guarded);
        counted = h.counted;
        owners = h.owners;
        held = laws.held k.config.page after.memory (owned_regions ps) (owned_regions new_spaces.processes) k.transfers (laws.finds_more k.transfers ps p r is.regions is.there unnamed) (held_made m r.object.0 r.pages absent k.config.page (owned_regions ps) k.transfers h.held);
        planned = h.planned;
        fitting = good.fitting;
        posted = good.posted;
        sending = good.sending;
        receiving = good.receiving;
        arrived = good.arrived;
      }

  after_served : IsServed k e after reply
  after_served = record {
    good = after_good;
    step = λ slots rests sents. steps (bytes_over k.memory slots rests sents) (bytes_over after.memory slots rests sents) (shows_same slots rests sents) (blank slots);
    kept = record { lent = λ n f t u w. c.kept.lent n f t u (record { was = w.was; is = w.is }); pooled = c.kept.pooled; fresh = λ n f t u w. c.kept.fresh n f t u (record { was = w.was; is = w.is }) };
    config = refl;
    unfailed = is.unfailed;
    meters = c.meters;
    landed = c.landed;
  }

-- what the contract of the event says, which made room and then the region
pub adds_served : RegionLaws → (k h new : Kernel) (p : ℕ) (e : Event) (reply : Reply) (r : Region) → IsGood k → IsNewRegion k p e reply r → Clears k h → HasRoom p h → Adds p r h new → IsServed k e new reply
adds_served laws k h after p e reply r good is c room adds =
    let m = h.memory in
    let hid = h.hidden in
    let mid : Kernel = record k { memory = m; hidden = hid } in
    let same : spaces.regions_of p k.spaces ≡ is.regions = ap (λ (o : Option (List Region)). unwrap_or o []) is.there in
    let kept_spaces : h.spaces ≡ k.spaces = ap (λ (x : Kernel). x.spaces) c.only in
    let memory : after.memory ≡ made m r.object.0 r.pages = ap (λ (x : Kernel). x.memory) adds.added in
    let is_after : after ≡ record mid { memory = made m r.object.0 r.pages; spaces = spaces.set_regions k.spaces p (with_added r is.regions) } =
    adds.added
    ∙ ap (λ (x : Kernel). record x { memory = made m r.object.0 r.pages; spaces = spaces.set_regions x.spaces p (with_added r (spaces.regions_of p x.spaces)) }) c.only
    ∙ ap (λ (l : List Region). record mid { memory = made m r.object.0 r.pages; spaces = spaces.set_regions k.spaces p (with_added r l) }) same in
    subst (λ (x : Kernel). IsServed k e x reply) (sym is_after)
    (after_served laws k m hid p e reply r good is (subst (Clears k) c.only c) (subst (HasRoom p) c.only room) adds.absent
    (sym (ap (λ (x : Memory). length (object_at x.objects r.object.0)) memory) ∙ adds.size) (subst IsSound memory adds.sound))
