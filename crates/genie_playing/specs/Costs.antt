-- What events cost, and what is written for each.
use Rattle.std.specs.Prelude.{◌≡◌, ℕ, ◌+◌, ◌-◌, List, [], ◌∷◌, ◌++◌, codes, decimal, flat_map, map}
use Rattle.genie_base.specs.declared.reply.Reply.{Reply}
use Rattle.genie_frame.specs.declared.frame.Meters.{Meters}
use Rattle.genie_script.specs.Spelling.{reply_text}
use Rattle.genie_playing.specs.declared.costs.Listing.{Listing}
use Rattle.genie_playing.specs.declared.costs.Listing.TheVariants.{Replies, Costs}

-- how far each meter rose
abbrev pub raise : Meters → Meters → Meters
raise old new = record {
  read = new.read - old.read;
  written = new.written - old.written;
  copied = new.copied - old.copied;
  zeroed = new.zeroed - old.zeroed;
  puts = new.puts - old.puts;
  gets = new.gets - old.gets;
  taken = new.taken - old.taken;
}

-- the reply to an event, and how far the meters rose in it
pub record Answer : Type 0 where
  pub reply : Reply
  pub cost : Meters

abbrev pub answer : Reply → Meters → Answer
answer reply cost = record { reply = reply; cost = cost }

abbrev pub replies_of : List Answer → List Reply
replies_of answers = map (λ (a : Answer). a.reply) answers

-- words and a number
abbrev pub counted : List ℕ → ℕ → List ℕ
counted words count = words ++ decimal count

-- the line of a cost, with its line end
abbrev pub cost_text : Meters → List ℕ
cost_text m =
    counted (codes "# read ") m.read
    ++ counted (codes " written ") m.written
    ++ counted (codes " copied ") m.copied
    ++ counted (codes " zeroed ") m.zeroed
    ++ counted (codes " puts ") m.puts
    ++ counted (codes " gets ") m.gets
    ++ counted (codes " taken ") m.taken
    ++ 10 ∷ []

-- what is written for an event: its reply, and what it cost where that is listed
abbrev pub said : Listing → Answer → List ℕ
said Replies a = reply_text a.reply
said Costs a = reply_text a.reply ++ cost_text a.cost

abbrev pub all_said : Listing → List Answer → List ℕ
all_said listing answers = flat_map (said listing) answers

-- what the events cost in all, by one meter
abbrev pub sum_of : (Meters → ℕ) → List Answer → ℕ
sum_of meter [] = 0
sum_of meter (a ∷ answers) = meter a.cost + sum_of meter answers

-- the costs add up to how far each meter rose in all
pub record AddUp (old : Meters) (answers : List Answer) (new : Meters) : Type 0 where
  pub read : new.read ≡ old.read + sum_of (λ m. m.read) answers
  pub written : new.written ≡ old.written + sum_of (λ m. m.written) answers
  pub copied : new.copied ≡ old.copied + sum_of (λ m. m.copied) answers
  pub zeroed : new.zeroed ≡ old.zeroed + sum_of (λ m. m.zeroed) answers
  pub puts : new.puts ≡ old.puts + sum_of (λ m. m.puts) answers
  pub gets : new.gets ≡ old.gets + sum_of (λ m. m.gets) answers
  pub taken : new.taken ≡ old.taken + sum_of (λ m. m.taken) answers
