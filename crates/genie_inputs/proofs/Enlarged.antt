-- A kernel with a region more, whose object is made for it.
use Rattle.std.proofs.Common.{◌≡◌, ℕ, ◌+◌, ◌<◌, true, false, List, [], ◌∷◌, refl, sym, ap, arith, ◌∙◌, length, length-set, get_or-set_other, replicate}
use Rattle.std.specs.Prelude.{Option, Some, count_by}
use Rattle.std.specs.List.{list_any}
use Rattle.genie_hiding.specs.Hidden.{is_of, objects_of}
use Rattle.genie_object.specs.declared.objects.Entry.{Entry}
use Rattle.genie_object.specs.Objects.{object_at, no_entry, is_absent}
use Rattle.genie_object.specs.Sound.{IsSound}
use Rattle.genie_region.specs.declared.region.Region.{Region}
use Rattle.genie_space.specs.Spaces as spaces
use Rattle.genie_model.specs.Tables.{entry}
use Rattle.genie_kernel.specs.declared.kernel.Kernel.{Kernel}
use Rattle.genie_kernel.specs.Calls.{names_weakly}
use Rattle.genie_kernel.specs.Regions.{owned_regions}
use Rattle.genie_kernel.specs.Lemmas.Keeping.{guards_kept}
use Rattle.genie_changes.specs.Beginning.{HasParts}
use Rattle.genie_changes.specs.Regions.{MakesObject, with_added}
use Rattle.genie_spaces.specs.RegionLaws.{RegionLaws}
use Rattle.genie_spaces.specs.Lemmas.Making.{made, touches_made, hidden_made, held_made}

some_there : (es : List Entry) (n : ℕ) → length es ≡ n → 0 < n → is_absent es ≡ false
some_there [] n e l = absurd (omega (arith, e, l))
some_there (x ∷ es) n e l = refl

module _ (laws : RegionLaws) (h : Kernel) (p : ℕ) (r : Region) (rs : List Region) (x : HasParts h) (there : entry h.spaces.processes p ≡ Some rs) (unnamed : list_any (names_weakly r.id.0) h.transfers ≡ false) (few : length rs + count_by (is_of p) h.hidden < 32) (some : 0 < r.pages) (writable : r.writable ≡ true) (absent : object_at h.memory.objects r.object.0 ≡ []) (size : length (object_at (made h.memory r.object.0 r.pages).objects r.object.0) ≡ r.pages) (sound : IsSound (made h.memory r.object.0 r.pages)) where
  abbrev ps : List (Option (List Region))
  ps = h.spaces.processes

  abbrev os : List (List Entry)
  os = (made h.memory r.object.0 r.pages).objects

  abbrev new_spaces : spaces.AddressSpaces
  new_spaces = spaces.set_regions h.spaces p (with_added r rs)

  abbrev enlarged : Kernel
  enlarged = record h { memory = made h.memory r.object.0 r.pages; spaces = new_spaces }

  makes : MakesObject r h.memory.objects os
  makes = record {
    absent = ap is_absent absent;
    there = some_there (object_at os r.object.0) r.pages size some;
    long = size;
    others = λ o other. ap length (get_or-set_other h.memory.objects r.object.0 o (replicate r.pages no_entry) [] other);
    absences = λ o other. ap is_absent (get_or-set_other h.memory.objects r.object.0 o (replicate r.pages no_entry) [] other);
  }

  pub enlarged_parts : HasParts enlarged
  enlarged_parts = record {
    fits = x.fits;
    sized = record { page = x.sized.page; frames = x.sized.frames; slots = x.sized.slots; pages = x.sized.pages };
    spaced = record { page = x.spaced.page; processes = length-set ps p (Some (with_added r rs)) ∙ x.spaced.processes; queue_places = x.spaced.queue_places };
    equipped = x.equipped;
    sound = sound;
    cached = hidden_made h.memory r.object.0 r.pages absent (objects_of h.hidden) x.sound x.cached;
    few = laws.few_more ps h.hidden p r rs there few x.few;
    backed = laws.backed_more h.memory.objects os ps h.hidden p r rs there some makes x.backed;
    guarded = laws.guarded_more os ps p r rs there (λ shut i. let clash : true ≡ false = sym writable ∙ shut in absurd (cc)) (guards_kept (λ o i. false) h.memory enlarged.memory (owned_regions ps) (touches_made h.memory r.object.0 r.pages absent) (λ j d l shut i. refl) x.guarded);
    counted = x.counted;
    owners = x.owners;
    held = laws.held h.config.page enlarged.memory (owned_regions ps) (owned_regions new_spaces.processes) h.transfers (laws.finds_more h.transfers ps p r rs there unnamed) (held_made h.memory r.object.0 r.pages absent h.config.page (owned_regions ps) h.transfers x.held);
    planned = x.planned;
    fitting = x.fitting;
    posted = x.posted;
    sending = x.sending;
    receiving = x.receiving;
    arrived = x.arrived;
  }
