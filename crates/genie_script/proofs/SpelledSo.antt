-- A line is read from its spelling alone.
use Rattle.std.proofs.Common.{◌≡◌, ℕ, Bool, true, false, List, [], ◌∷◌, Option, Some, None, refl, ap, ◌∙◌, decimal, inl, inr, ◌⊎◌}
use Rattle.std.specs.Prelude.{codes, option_map}
use Rattle.genie_base.specs.declared.event.Event.{Event}
use Rattle.genie_base.specs.declared.event.Event.TheVariants as event
use Rattle.genie_base.specs.Transfers.{class_of, is_system}
use Rattle.genie_script.specs.declared.fields.Route.{Route}
use Rattle.genie_script.specs.declared.keyword.Keyword.{Keyword}
use Rattle.genie_script.specs.declared.keyword.Keyword.TheVariants.{Boot, Device, Spawn, Fork, Exit, Map, Alloc, Unmap, Protect, Read, Write, Output, Input, Send, Recv, Finish, Cancel, Pageout}
use Rattle.genie_script.specs.declared.line.Line.{Line}
use Rattle.genie_script.specs.declared.line.Line.TheVariants as line
use Rattle.genie_script.specs.Numbers.{number_at, last_number, last_two, last_three}
use Rattle.genie_script.specs.Hex.{bytes_of, last_bytes}
use Rattle.genie_script.specs.Names.{file_at, file_text, kind_at, kind_text, semantics_at, semantics_text, port_at, port_text, mode_of, last_mode, dash_at}
use Rattle.genie_script.specs.Lines.{keyword_text, boot_of, device_of, route_at, buffer_of, output_of, input_of, protect_of, write_of, event_of, fields_of}
use Rattle.genie_script.specs.Spelling.{addr_text, event_words, device_words, line_words, spaced, line_text}
use Rattle.genie_script.proofs.Each.{Each, each_none, each_some, each_bind, each_map}
use Rattle.genie_script.proofs.Spells.{modes}
use Rattle.genie_script.proofs.Digits.{hex_texts}
use Rattle.genie_script.specs.Laws.{LinesAreSpelledSo}
use Rattle.genie_script.proofs.Grammar.{last_takes, number_at_takes, kind_at_takes, file_at_takes, semantics_at_takes, port_at_takes, dash_at_takes, last_number_takes, last_two_takes, last_three_takes, line_takes}

-- ---- what is read is spelled so

abbrev IsSpelled : Keyword → List (List ℕ) → Event → Type 0
IsSpelled k ws e = keyword_text k ∷ ws ≡ event_words e

-- the words of a route, and more words
abbrev routed : Route → List (List ℕ) → List (List ℕ)
routed r ws = decimal r.pid ∷ semantics_text r.sem ∷ decimal r.dev ∷ port_text r.port r.flow ∷ ws

route_at_takes : (ws : List (List ℕ)) → Each (λ (x : Route × List (List ℕ)). ws ≡ routed x.0 x.1) (route_at ws)
unfolding route_at
route_at_takes ws =
    each_bind _ (number_at ws) _ (λ pid a.
    each_bind _ (semantics_at pid.1) _ (λ sem b.
    each_bind _ (number_at sem.1) _ (λ dev c.
    each_bind _ (port_at dev.1) _ (λ port d.
    each_some (λ (x : Route × List (List ℕ)). ws ≡ routed x.0 x.1) (record { pid = pid.0; sem = sem.0; dev = dev.0; port = port.0.0; flow = port.0.1 }, port.1)
    (number_at_takes ws pid a
    ∙ ap (λ v. decimal pid.0 ∷ v) (semantics_at_takes pid.1 sem b)
    ∙ ap (λ v. decimal pid.0 ∷ semantics_text sem.0 ∷ v) (number_at_takes sem.1 dev c)
    ∙ ap (λ v. decimal pid.0 ∷ semantics_text sem.0 ∷ decimal dev.0 ∷ v) (port_at_takes dev.1 port d))))))

buffer_takes : (system : Bool) (ws : List (List ℕ)) → Each (λ (x : Option ℕ × ℕ). ws ≡ addr_text x.0 ∷ decimal x.1 ∷ []) (buffer_of system ws)
unfolding buffer_of
buffer_takes true ws =
    each_bind _ (dash_at ws) _ (λ rest a.
    each_bind _ (last_number rest) _ (λ len b.
    each_some (λ (x : Option ℕ × ℕ). ws ≡ addr_text x.0 ∷ decimal x.1 ∷ []) (None, len) (dash_at_takes ws rest a ∙ ap (λ v. codes "-" ∷ v) (last_number_takes rest len b))))
buffer_takes false ws = each_bind _ (last_two ws) _ (λ range a. each_some (λ (x : Option ℕ × ℕ). ws ≡ addr_text x.0 ∷ decimal x.1 ∷ []) (Some range.0, range.1) (last_two_takes ws range a))

output_takes : (ws : List (List ℕ)) → Each (IsSpelled Output ws) (output_of ws)
unfolding output_of event_words
output_takes ws =
    each_bind _ (route_at ws) _ (λ route a.
    each_bind _ (last_two route.1) _ (λ range b.
    each_some (IsSpelled Output ws) _ (ap (λ v. codes "out" ∷ v) (route_at_takes ws route a ∙ ap (routed route.0) (last_two_takes route.1 range b)))))

input_takes : (ws : List (List ℕ)) → Each (IsSpelled Input ws) (input_of ws)
unfolding input_of event_words
input_takes ws =
    each_bind _ (route_at ws) _ (λ route a.
    each_bind _ (buffer_of (is_system (class_of route.0.sem)) route.1) _ (λ buffer b.
    each_some (IsSpelled Input ws) _ (ap (λ v. codes "in" ∷ v) (route_at_takes ws route a ∙ ap (routed route.0) (buffer_takes (is_system (class_of route.0.sem)) route.1 buffer b)))))

protect_takes : (ws : List (List ℕ)) → Each (IsSpelled Protect ws) (protect_of ws)
unfolding protect_of event_words last_mode
protect_takes ws =
    each_bind _ (number_at ws) _ (λ pid a.
    each_bind _ (number_at pid.1) _ (λ page b.
    each_bind _ (last_mode page.1) _ (λ writable c.
    each_some (IsSpelled Protect ws) _
    (ap (λ v. codes "protect" ∷ v) (number_at_takes ws pid a)
    ∙ ap (λ v. codes "protect" ∷ decimal pid.0 ∷ v) (number_at_takes pid.1 page b)
    ∙ ap (λ v. codes "protect" ∷ decimal pid.0 ∷ decimal page.0 ∷ v) (last_takes mode_of modes page.1 writable c)))))

write_takes : (ws : List (List ℕ)) → Each (IsSpelled Write ws) (write_of ws)
unfolding write_of event_words last_bytes
write_takes ws =
    each_bind _ (number_at ws) _ (λ pid a.
    each_bind _ (number_at pid.1) _ (λ addr b.
    each_bind _ (last_bytes addr.1) _ (λ bytes c.
    each_some (IsSpelled Write ws) _
    (ap (λ v. codes "write" ∷ v) (number_at_takes ws pid a)
    ∙ ap (λ v. codes "write" ∷ decimal pid.0 ∷ v) (number_at_takes pid.1 addr b)
    ∙ ap (λ v. codes "write" ∷ decimal pid.0 ∷ decimal addr.0 ∷ v) (last_takes bytes_of hex_texts addr.1 bytes c)))))

one_takes : (k : Keyword) (make : ℕ → Event) (ws : List (List ℕ)) → ((n : ℕ) → keyword_text k ∷ decimal n ∷ [] ≡ event_words (make n)) → Each (IsSpelled k ws) (option_map make (last_number ws))
one_takes k make ws h = each_map (IsSpelled k ws) (last_number ws) make (λ n e. ap (λ v. keyword_text k ∷ v) (last_number_takes ws n e) ∙ h n)

two_take : (k : Keyword) (make : ℕ → ℕ → Event) (ws : List (List ℕ)) → ((m n : ℕ) → keyword_text k ∷ decimal m ∷ decimal n ∷ [] ≡ event_words (make m n)) → Each (IsSpelled k ws) (option_map (λ (x : ℕ × ℕ). make x.0 x.1) (last_two ws))
two_take k make ws h = each_map (IsSpelled k ws) (last_two ws) (λ (x : ℕ × ℕ). make x.0 x.1) (λ x e. ap (λ v. keyword_text k ∷ v) (last_two_takes ws x e) ∙ h x.0 x.1)

three_take : (k : Keyword) (make : ℕ → ℕ → ℕ → Event) (ws : List (List ℕ)) → ((l m n : ℕ) → keyword_text k ∷ decimal l ∷ decimal m ∷ decimal n ∷ [] ≡ event_words (make l m n)) → Each (IsSpelled k ws) (option_map (λ (x : ℕ × ℕ × ℕ). make x.0 x.1 x.2) (last_three ws))
three_take k make ws h = each_map (IsSpelled k ws) (last_three ws) (λ (x : ℕ × ℕ × ℕ). make x.0 x.1 x.2) (λ x e. ap (λ v. keyword_text k ∷ v) (last_three_takes ws x e) ∙ h x.0 x.1 x.2)

event_takes : (k : Keyword) (ws : List (List ℕ)) → Each (IsSpelled k ws) (event_of k ws)
unfolding event_of event_words
event_takes Boot ws = each_none _
event_takes Device ws = each_none _
event_takes Spawn ws = one_takes Spawn event.Spawn ws (λ n. refl)
event_takes Fork ws = two_take Fork event.Fork ws (λ m n. refl)
event_takes Exit ws = one_takes Exit event.Exit ws (λ n. refl)
event_takes Map ws = three_take Map event.Map ws (λ l m n. refl)
event_takes Alloc ws = two_take Alloc event.Alloc ws (λ m n. refl)
event_takes Unmap ws = two_take Unmap event.Unmap ws (λ m n. refl)
event_takes Protect ws = protect_takes ws
event_takes Read ws = three_take Read event.Read ws (λ l m n. refl)
event_takes Write ws = write_takes ws
event_takes Output ws = output_takes ws
event_takes Input ws = input_takes ws
event_takes Send ws = two_take Send event.Send ws (λ m n. refl)
event_takes Recv ws = two_take Recv event.Recv ws (λ m n. refl)
event_takes Finish ws = one_takes Finish event.Finish ws (λ n. refl)
event_takes Cancel ws = one_takes Cancel event.Cancel ws (λ n. refl)
event_takes Pageout ws = one_takes Pageout event.Pageout ws (λ n. refl)

-- a line that isn't blank, by its words
abbrev IsLine : Keyword → List (List ℕ) → Line → Type 0
IsLine k ws l = keyword_text k ∷ ws ≡ line_words l

boot_takes : (ws : List (List ℕ)) → Each (IsLine Boot ws) (boot_of ws)
unfolding boot_of line_words
boot_takes ws =
    each_bind _ (number_at ws) _ (λ page a.
    each_bind _ (number_at page.1) _ (λ frames b.
    each_bind _ (last_three frames.1) _ (λ rest c.
    each_some (IsLine Boot ws) _
    (ap (λ v. codes "boot" ∷ v) (number_at_takes ws page a)
    ∙ ap (λ v. codes "boot" ∷ decimal page.0 ∷ v) (number_at_takes page.1 frames b)
    ∙ ap (λ v. codes "boot" ∷ decimal page.0 ∷ decimal frames.0 ∷ v) (last_three_takes frames.1 rest c)))))

device_takes : (ws : List (List ℕ)) → Each (λ d. codes "device" ∷ ws ≡ device_words d) (device_of ws)
unfolding device_of
device_takes ws =
    each_bind _ (number_at ws) _ (λ number a.
    each_bind _ (kind_at number.1) _ (λ kind b.
    each_bind _ (file_at kind.1) _ (λ input c.
    each_bind _ (file_at input.1) _ (λ output d.
    each_bind _ (last_two output.1) _ (λ sizes e.
    each_some (λ x. codes "device" ∷ ws ≡ device_words x) _
    (ap (λ v. codes "device" ∷ v) (number_at_takes ws number a)
    ∙ ap (λ v. codes "device" ∷ decimal number.0 ∷ v) (kind_at_takes number.1 kind b)
    ∙ ap (λ v. codes "device" ∷ decimal number.0 ∷ kind_text kind.0 ∷ v) (file_at_takes kind.1 input c)
    ∙ ap (λ v. codes "device" ∷ decimal number.0 ∷ kind_text kind.0 ∷ file_text input.0 ∷ v) (file_at_takes input.1 output d)
    ∙ ap (λ v. codes "device" ∷ decimal number.0 ∷ kind_text kind.0 ∷ file_text input.0 ∷ file_text output.0 ∷ v) (last_two_takes output.1 sizes e)))))))

event_line : (k : Keyword) (ws : List (List ℕ)) → Each (IsLine k ws) (option_map line.Event (event_of k ws))
unfolding line_words
event_line k ws = each_map (IsLine k ws) (event_of k ws) line.Event (λ e f. event_takes k ws e f)

fields_take : (k : Keyword) (ws : List (List ℕ)) → Each (IsLine k ws) (fields_of k ws)
unfolding fields_of line_words
fields_take Boot ws = boot_takes ws
fields_take Device ws = each_map (IsLine Device ws) (device_of ws) line.Device (λ d e. device_takes ws d e)
fields_take Spawn ws = event_line Spawn ws
fields_take Fork ws = event_line Fork ws
fields_take Exit ws = event_line Exit ws
fields_take Map ws = event_line Map ws
fields_take Alloc ws = event_line Alloc ws
fields_take Unmap ws = event_line Unmap ws
fields_take Protect ws = event_line Protect ws
fields_take Read ws = event_line Read ws
fields_take Write ws = event_line Write ws
fields_take Output ws = event_line Output ws
fields_take Input ws = event_line Input ws
fields_take Send ws = event_line Send ws
fields_take Recv ws = event_line Recv ws
fields_take Finish ws = event_line Finish ws
fields_take Cancel ws = event_line Cancel ws
fields_take Pageout ws = event_line Pageout ws

pub spelled_so : LinesAreSpelledSo
spelled_so text = line_takes text (λ l. (l ≡ line.Blank) ⊎ (text ≡ line_text l)) (inl refl) (λ k ws e l f. inr (e ∙ ap spaced (fields_take k ws l f)))
