-- A line that is read is whole.
use Rattle.std.proofs.Common.{◌≡◌, ℕ, ◌<◌, Bool, true, false, cond, ltb, ◌&&◌, List, [], ◌∷◌, length, Option, Some, None, refl, arith}
use Rattle.std.specs.Prelude.{option_map, is_some, ok_or, IfOk}
use Rattle.std.proofs.lemmas.Bool.{lt-ltb}
use Rattle.genie_base.specs.declared.event.Event.{Event}
use Rattle.genie_base.specs.Events.{is_whole, has_one}
use Rattle.genie_base.specs.Transfers.{class_of, is_system}
use Rattle.genie_script.specs.declared.keyword.Keyword.{Keyword}
use Rattle.genie_script.specs.declared.keyword.Keyword.TheVariants.{Boot, Device, Spawn, Fork, Exit, Map, Alloc, Unmap, Protect, Read, Write, Output, Input, Send, Recv, Finish, Cancel, Pageout}
use Rattle.genie_script.specs.declared.line.Line.{Line}
use Rattle.genie_script.specs.declared.line.Line.TheVariants as line
use Rattle.genie_script.specs.Words.{words, word_at, last_word}
use Rattle.genie_script.specs.Numbers.{number_at, last_number, last_two, last_three}
use Rattle.genie_script.specs.Hex.{nibble_of, pairs_of, bytes_of, last_bytes}
use Rattle.genie_script.specs.Names.{last_mode, dash_at}
use Rattle.genie_script.proofs.Each.{Each, each_none, each_some, each_bind, each_map, each_if}
use Rattle.genie_script.specs.Lines.{boot_of, device_of, route_at, buffer_of, output_of, input_of, protect_of, write_of, event_of, fields_of, line_of, keyword_of, is_blank, is_whole_line}

abbrev IsWhole : Event → Type 0
IsWhole e = is_whole e ≡ true

pairs_full : (text : List ℕ) → 0 < length text → Each (λ bytes. 0 < length bytes) (pairs_of text)
unfolding pairs_of
pairs_full [] lt = absurd (omega arith)
pairs_full (a ∷ []) lt = each_none _
pairs_full (a ∷ b ∷ text) lt = each_bind _ (nibble_of a) _ (λ h e. each_bind _ (nibble_of b) _ (λ l f. each_bind _ (pairs_of text) _ (λ more g. each_some _ _ (omega arith))))

bytes_full : (text : List ℕ) → Each (λ bytes. 0 < length bytes) (bytes_of text)
unfolding bytes_of
bytes_full [] = each_none _
bytes_full (b ∷ text) = each_if _ (ltb 0 (length (b ∷ text)) && ltb (length (b ∷ text)) 8193) (pairs_of (b ∷ text)) (λ e. pairs_full (b ∷ text) (omega arith))

last_bytes_full : (ws : List (List ℕ)) → Each (λ bytes. 0 < length bytes) (last_bytes ws)
unfolding last_bytes
last_bytes_full ws = each_bind _ (last_word ws) _ (λ w e. bytes_full w)

write_whole : (ws : List (List ℕ)) → Each IsWhole (write_of ws)
unfolding write_of
write_whole ws = each_bind _ (number_at ws) _ (λ pid p. each_bind _ (number_at pid.1) _ (λ addr a. each_bind _ (last_bytes addr.1) _ (λ bytes b. each_some _ _ (lt-ltb _ _ (last_bytes_full addr.1 bytes b)))))

buffer_whole : (system : Bool) (ws : List (List ℕ)) → Each (λ buffer. has_one system (is_some buffer.0) ≡ true) (buffer_of system ws)
unfolding buffer_of
buffer_whole true ws = each_bind _ (dash_at ws) _ (λ rest r. each_bind _ (last_number rest) _ (λ len l. each_some _ _ refl))
buffer_whole false ws = each_bind _ (last_two ws) _ (λ range r. each_some _ _ refl)

input_whole : (ws : List (List ℕ)) → Each IsWhole (input_of ws)
unfolding input_of
input_whole ws = each_bind _ (route_at ws) _ (λ route r. each_bind _ (buffer_of (is_system (class_of route.0.sem)) route.1) _ (λ buffer b. each_some _ _ (buffer_whole (is_system (class_of route.0.sem)) route.1 buffer b)))

output_whole : (ws : List (List ℕ)) → Each IsWhole (output_of ws)
unfolding output_of
output_whole ws = each_bind _ (route_at ws) _ (λ route r. each_bind _ (last_two route.1) _ (λ range b. each_some _ _ refl))

protect_whole : (ws : List (List ℕ)) → Each IsWhole (protect_of ws)
unfolding protect_of
protect_whole ws = each_bind _ (number_at ws) _ (λ pid p. each_bind _ (number_at pid.1) _ (λ page a. each_bind _ (last_mode page.1) _ (λ mode b. each_some _ _ refl)))

event_whole : (k : Keyword) (ws : List (List ℕ)) → Each IsWhole (event_of k ws)
unfolding event_of
event_whole Boot ws = each_none _
event_whole Device ws = each_none _
event_whole Spawn ws = each_map _ (last_number ws) _ (λ n e. refl)
event_whole Fork ws = each_map _ (last_two ws) _ (λ n e. refl)
event_whole Exit ws = each_map _ (last_number ws) _ (λ n e. refl)
event_whole Map ws = each_map _ (last_three ws) _ (λ n e. refl)
event_whole Alloc ws = each_map _ (last_two ws) _ (λ n e. refl)
event_whole Unmap ws = each_map _ (last_two ws) _ (λ n e. refl)
event_whole Protect ws = protect_whole ws
event_whole Read ws = each_map _ (last_three ws) _ (λ n e. refl)
event_whole Write ws = write_whole ws
event_whole Output ws = output_whole ws
event_whole Input ws = input_whole ws
event_whole Send ws = each_map _ (last_two ws) _ (λ n e. refl)
event_whole Recv ws = each_map _ (last_two ws) _ (λ n e. refl)
event_whole Finish ws = each_map _ (last_number ws) _ (λ n e. refl)
event_whole Cancel ws = each_map _ (last_number ws) _ (λ n e. refl)
event_whole Pageout ws = each_map _ (last_number ws) _ (λ n e. refl)

each_each : (o : Option Event) → Each IsWhole o → Each (λ l. is_whole_line l ≡ true) (option_map line.Event o)
each_each (Some e) h = each_some _ _ (h e refl)
each_each None h = each_none _

event_line : (k : Keyword) (ws : List (List ℕ)) → Each (λ l. is_whole_line l ≡ true) (option_map line.Event (event_of k ws))
event_line k ws = each_each (event_of k ws) (event_whole k ws)

fields_whole : (k : Keyword) (ws : List (List ℕ)) → Each (λ l. is_whole_line l ≡ true) (fields_of k ws)
unfolding fields_of boot_of
fields_whole Boot ws = each_bind _ (number_at ws) _ (λ page p. each_bind _ (number_at page.1) _ (λ frames f. each_bind _ (last_three frames.1) _ (λ rest r. each_some _ _ refl)))
fields_whole Device ws = each_map _ (device_of ws) _ (λ d e. refl)
fields_whole Spawn ws = event_line Spawn ws
fields_whole Fork ws = event_line Fork ws
fields_whole Exit ws = event_line Exit ws
fields_whole Map ws = event_line Map ws
fields_whole Alloc ws = event_line Alloc ws
fields_whole Unmap ws = event_line Unmap ws
fields_whole Protect ws = event_line Protect ws
fields_whole Read ws = event_line Read ws
fields_whole Write ws = event_line Write ws
fields_whole Output ws = event_line Output ws
fields_whole Input ws = event_line Input ws
fields_whole Send ws = event_line Send ws
fields_whole Recv ws = event_line Recv ws
fields_whole Finish ws = event_line Finish ws
fields_whole Cancel ws = event_line Cancel ws
fields_whole Pageout ws = event_line Pageout ws

blank_or : (P : Line → Type 0) (b : Bool) (o : Option Line) → P line.Blank → Each P o → Each P (cond b (Some line.Blank) o)
blank_or P true o p h = each_some P line.Blank p
blank_or P false o p h = h

-- each line that is read is whole
pub line_whole : (text : List ℕ) (l : Line) → line_of text ≡ Some l → is_whole_line l ≡ true
unfolding line_of
line_whole text = blank_or (λ l. is_whole_line l ≡ true) (is_blank text) _ refl (each_bind _ (word_at (words text)) _ (λ word w. each_bind _ (keyword_of word.0) _ (λ k e. fields_whole k word.1)))

pub whole_ok : {E : Type 0} (o : Option Line) (e : E) → Each (λ l. is_whole_line l ≡ true) o → IfOk (ok_or o e) (λ l. is_whole_line l ≡ true)
whole_ok (Some l) e h = h l refl
whole_ok None e h = tt
