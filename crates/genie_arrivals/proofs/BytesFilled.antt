-- An object was filled with bytes.
use Rattle.std.proofs.Common.{◌≡◌, ℕ, false, List, refl, ap, ◌∙◌, length}
use Rattle.genie_object.specs.declared.memory.Memory.{Memory}
use Rattle.genie_object.specs.declared.objects.Entry.{Entry}
use Rattle.genie_object.specs.Memory.{Seen, frame_of}
use Rattle.genie_object.specs.Objects.{object_at}
use Rattle.genie_object.specs.Lemmas.Touching.{touches_more, touches_on}
use Rattle.genie_plan.specs.Landings.{entries_bytes}
use Rattle.genie_arrivals.specs.Clearing.{ClearsObject, Forbids, NarrowsAll}
use Rattle.genie_arrivals.specs.FreshStored.{StoresBytes}
use Rattle.genie_arrivals.specs.OutboardMove.{FillsBytes}
use Rattle.genie_arrivals.proofs.Forbidding.{all_forbidden, narrowed_seen, narrowed_sound, narrowed_touches, with_entries}

narrowed : (old mid : Memory) (os : List (List Entry)) (o off : ℕ) (bytes : List ℕ) → StoresBytes old mid o off bytes → NarrowsAll mid.objects os → StoresBytes old (with_entries mid os) o off bytes
narrowed old mid os o off bytes x h = record {
  sound = narrowed_sound mid os h x.sound;
  shows = λ slots paged.
      let y = x.shows slots paged in
      let same = narrowed_seen mid os h slots in
      record {
        range = λ pages within. ap (λ (s : Seen). entries_bytes s o 0 pages) same ∙ y.range pages within;
        objects = λ a b ne. ap (λ (s : Seen). s.entry_bytes a b) same ∙ y.objects a b ne;
        others = λ f. ap (λ (s : Seen). s.kept_bytes f) same ∙ y.others f;
      };
  keeps = record {
    entry_held = λ a b f e held. ap (frame_of mid.pages.pages) (h.narrows a b).page ∙ x.keeps.entry_held a b f e held;
    counts = x.keeps.counts;
    lent = x.keeps.lent;
    systems = x.keeps.systems;
    entries = λ a. h.sizes a ∙ x.keeps.entries a;
    number = x.keeps.number;
    page = x.keeps.page;
    slots = x.keeps.slots;
    most = x.keeps.most;
  };
  touches = touches_on _ old mid (with_entries mid os) x.touches (touches_more (λ a b. false) _ mid (with_entries mid os) (λ a b e. refl) (narrowed_touches mid os h));
  rises = x.rises;
}

pub bytes_filled : (old clear mid : Memory) (os : List (List Entry)) (o off n : ℕ) (bytes : List ℕ) → ClearsObject old clear o → StoresBytes clear mid o off bytes → n ≡ length (object_at mid.objects o) → Forbids o n mid.objects os → FillsBytes old (with_entries mid os) o off bytes
bytes_filled old clear mid os o off n bytes c x size h = record {
  clear = clear;
  clears = c;
  stores = narrowed clear mid os o off bytes x h.all;
  shut = all_forbidden o n mid.objects os size h;
}
