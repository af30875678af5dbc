-- What each form of a line says is what the grammar says.
use Rattle.std.proofs.Common.{◌≡◌, ℕ, List, [], ◌∷◌, Option, Some, None, Result, refl, sym, ◌∙◌, ap, subst}
use Rattle.std.specs.Option.{option_map, ok_or}
use Rattle.rsct_packet.specs.Ids.{last_u32}
use Rattle.value_words.specs.Words.{◌>>=◌, when_true, number_word, hex_word, node_word, network_word}
use Rattle.world_model.specs.Words.{what_word}
use Rattle.world_model.specs.Lines.{Head, Said, says_one, says_event, says_two, says_call, said, HMode, HNode, HAdapter, HHb, HPort, HLevel, HDomain, HBegin, HStart, HStop, HAsk, HTick, HRun, HDeliver, HDrop, HFlow, HCut, HHeal, HGarbage, HShow, HClient, HJoin, HLeave, HExpel, HState, HMessage, HAttrs, HVote, HSubscribe, HUnsubscribe, HGoodbye}
use Rattle.value_words.specs.declared.faults.WordFault.{WordFault}
use Rattle.value_words.specs.declared.faults.WordFault.TheVariants as word_fault
use Rattle.script_words.specs.declared.heads.Head.{Head as LineHead}
use Rattle.script_words.specs.Heads.{head_seen}
use Rattle.value_words.specs.Counted.{first_of, one_of, two_of, three_of, four_of}
use Rattle.script_reader.specs.declared.said.Said.{Said as LineSaid}
use Rattle.script_reader.specs.Said.{GivesSaid, said_seen, mode_said, node_said, adapter_said, hb_said, port_said, level_said, domain_said, begin_said, start_said, stop_said, ask_said, tick_said, run_said, deliver_said, drop_said, flow_said, cut_said, heal_said, garbage_said, show_said, client_said, join_said, leave_said, expel_said, state_said, message_said, attrs_said, vote_said, subscribe_said, unsubscribe_said, goodbye_said, last_network}

-- opens what the forms are made of
unfoldable forms_opens : Unit {0}
unfolding said first_of one_of two_of three_of four_of last_network when_true says_one says_event says_two says_call ◌>>=◌
forms_opens = tt

bind_bind : {X Y Z : Type 0} (p : Option X) (f : X → Option Y) (g : Y → Option Z) → ((p >>= f) >>= g) ≡ (p >>= λ x. f x >>= g)
unfolding ◌>>=◌
bind_bind None f g = refl
bind_bind (Some x) f g = refl

bind_same : {X Y : Type 0} (p : Option X) (f g : X → Option Y) → ((x : X) → f x ≡ g x) → (p >>= f) ≡ (p >>= g)
unfolding ◌>>=◌
bind_same None f g h = refl
bind_same (Some x) f g h = h x

says_bind : (f : ℕ → Said) (p : Option ℕ) → (p >>= λ n. Some (f n)) ≡ says_one f p
unfolding says_one ◌>>=◌
says_bind f None = refl
says_bind f (Some n) = refl

mode_form : (ws : List (List ℕ)) → mode_said ws ≡ said HMode ws
unfolding mode_said forms_opens
mode_form [] = refl
mode_form (a ∷ []) = refl
mode_form (a ∷ b ∷ ws) = refl

node_form : (ws : List (List ℕ)) → node_said ws ≡ said HNode ws
unfolding node_said forms_opens
node_form [] = refl
node_form (a ∷ []) = says_bind _ (node_word a)
node_form (a ∷ b ∷ ws) = refl

adapter_form : (ws : List (List ℕ)) → adapter_said ws ≡ said HAdapter ws
unfolding adapter_said forms_opens
adapter_form [] = refl
adapter_form (a ∷ []) = refl
adapter_form (a ∷ b ∷ []) = refl
adapter_form (a ∷ b ∷ c ∷ []) = refl
adapter_form (a ∷ b ∷ c ∷ d ∷ ws) = refl

hb_form : (ws : List (List ℕ)) → hb_said ws ≡ said HHb ws
unfolding hb_said forms_opens
hb_form [] = refl
hb_form (a ∷ []) = refl
hb_form (a ∷ b ∷ []) = refl
hb_form (a ∷ b ∷ c ∷ ws) = refl

port_form : (ws : List (List ℕ)) → port_said ws ≡ said HPort ws
unfolding port_said forms_opens
port_form [] = refl
port_form (a ∷ []) = says_bind _ (number_word 1 65000 a)
port_form (a ∷ b ∷ ws) = refl

level_form : (ws : List (List ℕ)) → level_said ws ≡ said HLevel ws
unfolding level_said forms_opens
level_form [] = refl
level_form (a ∷ []) = refl
level_form (a ∷ b ∷ []) = refl
level_form (a ∷ b ∷ c ∷ ws) = refl

domain_form : (ws : List (List ℕ)) → domain_said ws ≡ said HDomain ws
unfolding domain_said forms_opens
domain_form [] = refl
domain_form (a ∷ []) = says_bind _ (number_word 1 last_u32 a)
domain_form (a ∷ b ∷ ws) = refl

begin_form : (ws : List (List ℕ)) → begin_said ws ≡ said HBegin ws
unfolding begin_said forms_opens
begin_form [] = refl
begin_form (a ∷ ws) = refl

start_form : (ws : List (List ℕ)) → start_said ws ≡ said HStart ws
unfolding start_said forms_opens
start_form [] = refl
start_form (a ∷ []) = says_bind _ (node_word a)
start_form (a ∷ b ∷ ws) = refl

stop_form : (ws : List (List ℕ)) → stop_said ws ≡ said HStop ws
unfolding stop_said forms_opens
stop_form [] = refl
stop_form (a ∷ []) = says_bind _ (node_word a)
stop_form (a ∷ b ∷ ws) = refl

ask_form : (ws : List (List ℕ)) → ask_said ws ≡ said HAsk ws
unfolding ask_said forms_opens
ask_form [] = refl
ask_form (a ∷ ws) = refl

tick_form : (ws : List (List ℕ)) → tick_said ws ≡ said HTick ws
unfolding tick_said forms_opens
tick_form [] = refl
tick_form (a ∷ []) = says_bind _ (node_word a)
tick_form (a ∷ b ∷ ws) = refl

run_form : (ws : List (List ℕ)) → run_said ws ≡ said HRun ws
unfolding run_said forms_opens
run_form [] = refl
run_form (a ∷ []) = says_bind _ (number_word 1 10000 a)
run_form (a ∷ b ∷ ws) = refl

deliver_form : (ws : List (List ℕ)) → deliver_said ws ≡ said HDeliver ws
unfolding deliver_said forms_opens
deliver_form [] = refl
deliver_form (a ∷ []) = refl
deliver_form (a ∷ b ∷ []) = refl
deliver_form (a ∷ b ∷ c ∷ []) = refl
deliver_form (a ∷ b ∷ c ∷ d ∷ ws) = refl

drop_form : (ws : List (List ℕ)) → drop_said ws ≡ said HDrop ws
unfolding drop_said forms_opens
drop_form [] = refl
drop_form (a ∷ []) = refl
drop_form (a ∷ b ∷ []) = refl
drop_form (a ∷ b ∷ c ∷ ws) = refl

flow_form : (ws : List (List ℕ)) → flow_said ws ≡ said HFlow ws
unfolding flow_said forms_opens
flow_form [] = refl
flow_form (a ∷ ws) = refl

cut_form : (ws : List (List ℕ)) → cut_said ws ≡ said HCut ws
unfolding cut_said forms_opens
cut_form [] = refl
cut_form (a ∷ []) = refl
cut_form (a ∷ b ∷ []) = refl
cut_form (a ∷ b ∷ c ∷ []) = bind_bind (network_word c) _ _
cut_form (a ∷ b ∷ c ∷ d ∷ ws) = refl

heal_form : (ws : List (List ℕ)) → heal_said ws ≡ said HHeal ws
unfolding heal_said forms_opens
heal_form [] = refl
heal_form (a ∷ []) = refl
heal_form (a ∷ b ∷ []) = refl
heal_form (a ∷ b ∷ c ∷ []) = bind_bind (network_word c) _ _
heal_form (a ∷ b ∷ c ∷ d ∷ ws) = refl

garbage_form : (ws : List (List ℕ)) → garbage_said ws ≡ said HGarbage ws
unfolding garbage_said forms_opens
garbage_form [] = refl
garbage_form (a ∷ []) = refl
garbage_form (a ∷ b ∷ []) = bind_same (hex_word b) _ _ (λ bytes. says_bind _ (node_word a))
garbage_form (a ∷ b ∷ c ∷ ws) = refl

show_form : (ws : List (List ℕ)) → show_said ws ≡ said HShow ws
unfolding show_said forms_opens
show_form [] = refl
show_form (a ∷ []) = refl
show_form (a ∷ b ∷ []) = bind_same (what_word b) _ _ (λ what. says_bind _ (node_word a))
show_form (a ∷ b ∷ c ∷ ws) = refl

client_form : (ws : List (List ℕ)) → client_said ws ≡ said HClient ws
unfolding client_said forms_opens
client_form [] = refl
client_form (a ∷ []) = refl
client_form (a ∷ b ∷ []) = refl
client_form (a ∷ b ∷ c ∷ []) = refl
client_form (a ∷ b ∷ c ∷ d ∷ ws) = refl

join_form : (ws : List (List ℕ)) → join_said ws ≡ said HJoin ws
unfolding join_said forms_opens
join_form [] = refl
join_form (a ∷ []) = refl
join_form (a ∷ b ∷ []) = refl
join_form (a ∷ b ∷ c ∷ ws) = refl

leave_form : (ws : List (List ℕ)) → leave_said ws ≡ said HLeave ws
unfolding leave_said forms_opens
leave_form [] = refl
leave_form (a ∷ []) = refl
leave_form (a ∷ b ∷ []) = refl
leave_form (a ∷ b ∷ c ∷ []) = refl
leave_form (a ∷ b ∷ c ∷ d ∷ ws) = refl

expel_form : (ws : List (List ℕ)) → expel_said ws ≡ said HExpel ws
unfolding expel_said forms_opens
expel_form [] = refl
expel_form (a ∷ []) = refl
expel_form (a ∷ b ∷ []) = refl
expel_form (a ∷ b ∷ c ∷ ws) = refl

state_form : (ws : List (List ℕ)) → state_said ws ≡ said HState ws
unfolding state_said forms_opens
state_form [] = refl
state_form (a ∷ []) = refl
state_form (a ∷ b ∷ []) = refl
state_form (a ∷ b ∷ c ∷ []) = refl
state_form (a ∷ b ∷ c ∷ d ∷ []) = refl
state_form (a ∷ b ∷ c ∷ d ∷ e ∷ ws) = refl

message_form : (ws : List (List ℕ)) → message_said ws ≡ said HMessage ws
unfolding message_said forms_opens
message_form [] = refl
message_form (a ∷ []) = refl
message_form (a ∷ b ∷ []) = refl
message_form (a ∷ b ∷ c ∷ []) = refl
message_form (a ∷ b ∷ c ∷ d ∷ []) = refl
message_form (a ∷ b ∷ c ∷ d ∷ e ∷ ws) = refl

attrs_form : (ws : List (List ℕ)) → attrs_said ws ≡ said HAttrs ws
unfolding attrs_said forms_opens
attrs_form [] = refl
attrs_form (a ∷ []) = refl
attrs_form (a ∷ b ∷ []) = refl
attrs_form (a ∷ b ∷ c ∷ ws) = refl

vote_form : (ws : List (List ℕ)) → vote_said ws ≡ said HVote ws
unfolding vote_said forms_opens
vote_form [] = refl
vote_form (a ∷ []) = refl
vote_form (a ∷ b ∷ []) = refl
vote_form (a ∷ b ∷ c ∷ []) = refl
vote_form (a ∷ b ∷ c ∷ d ∷ ws) = refl

subscribe_form : (ws : List (List ℕ)) → subscribe_said ws ≡ said HSubscribe ws
unfolding subscribe_said forms_opens
subscribe_form [] = refl
subscribe_form (a ∷ []) = refl
subscribe_form (a ∷ b ∷ []) = refl
subscribe_form (a ∷ b ∷ c ∷ ws) = refl

unsubscribe_form : (ws : List (List ℕ)) → unsubscribe_said ws ≡ said HUnsubscribe ws
unfolding unsubscribe_said forms_opens
unsubscribe_form [] = refl
unsubscribe_form (a ∷ []) = refl
unsubscribe_form (a ∷ b ∷ []) = refl
unsubscribe_form (a ∷ b ∷ c ∷ ws) = refl

goodbye_form : (ws : List (List ℕ)) → goodbye_said ws ≡ said HGoodbye ws
unfolding goodbye_said forms_opens
goodbye_form [] = refl
goodbye_form (a ∷ []) = refl
goodbye_form (a ∷ b ∷ ws) = refl

-- what the words after a first word say, word after word
abbrev pub form_said : Head → List (List ℕ) → Option Said
form_said HMode ws = mode_said ws
form_said HNode ws = node_said ws
form_said HAdapter ws = adapter_said ws
form_said HHb ws = hb_said ws
form_said HPort ws = port_said ws
form_said HLevel ws = level_said ws
form_said HDomain ws = domain_said ws
form_said HBegin ws = begin_said ws
form_said HStart ws = start_said ws
form_said HStop ws = stop_said ws
form_said HAsk ws = ask_said ws
form_said HTick ws = tick_said ws
form_said HRun ws = run_said ws
form_said HDeliver ws = deliver_said ws
form_said HDrop ws = drop_said ws
form_said HFlow ws = flow_said ws
form_said HCut ws = cut_said ws
form_said HHeal ws = heal_said ws
form_said HGarbage ws = garbage_said ws
form_said HShow ws = show_said ws
form_said HClient ws = client_said ws
form_said HJoin ws = join_said ws
form_said HLeave ws = leave_said ws
form_said HExpel ws = expel_said ws
form_said HState ws = state_said ws
form_said HMessage ws = message_said ws
form_said HAttrs ws = attrs_said ws
form_said HVote ws = vote_said ws
form_said HSubscribe ws = subscribe_said ws
form_said HUnsubscribe ws = unsubscribe_said ws
form_said HGoodbye ws = goodbye_said ws

same_form : (h : Head) (ws : List (List ℕ)) → form_said h ws ≡ said h ws
same_form HMode ws = mode_form ws
same_form HNode ws = node_form ws
same_form HAdapter ws = adapter_form ws
same_form HHb ws = hb_form ws
same_form HPort ws = port_form ws
same_form HLevel ws = level_form ws
same_form HDomain ws = domain_form ws
same_form HBegin ws = begin_form ws
same_form HStart ws = start_form ws
same_form HStop ws = stop_form ws
same_form HAsk ws = ask_form ws
same_form HTick ws = tick_form ws
same_form HRun ws = run_form ws
same_form HDeliver ws = deliver_form ws
same_form HDrop ws = drop_form ws
same_form HFlow ws = flow_form ws
same_form HCut ws = cut_form ws
same_form HHeal ws = heal_form ws
same_form HGarbage ws = garbage_form ws
same_form HShow ws = show_form ws
same_form HClient ws = client_form ws
same_form HJoin ws = join_form ws
same_form HLeave ws = leave_form ws
same_form HExpel ws = expel_form ws
same_form HState ws = state_form ws
same_form HMessage ws = message_form ws
same_form HAttrs ws = attrs_form ws
same_form HVote ws = vote_form ws
same_form HSubscribe ws = subscribe_form ws
same_form HUnsubscribe ws = unsubscribe_form ws
same_form HGoodbye ws = goodbye_form ws

pub gives_form : (h k : LineHead) (r : Result LineSaid WordFault) (ws : List (List ℕ)) → h ≡ k → GivesSaid r (form_said (head_seen k) ws)
    → GivesSaid r (said (head_seen h) ws)
gives_form h k r ws e g =
    let P : Option Said → Type 0 = λ p. GivesSaid r p in
    subst P (same_form (head_seen k) ws ∙ ap (λ j. said (head_seen j) ws) (sym e)) g

option_gives : (o : Option LineSaid) (p : Option Said) → option_map said_seen o ≡ p → GivesSaid (ok_or o word_fault.BadWord) p
option_gives None p e = sym e
option_gives (Some x) p e = sym e

pub option_form : (h k : LineHead) (o : Option LineSaid) (r : Result LineSaid WordFault) (ws : List (List ℕ)) → h ≡ k → r ≡ ok_or o word_fault.BadWord
    → option_map said_seen o ≡ form_said (head_seen k) ws → GivesSaid r (said (head_seen h) ws)
option_form h k o r ws e f g =
    let P : Result LineSaid WordFault → Type 0 = λ q. GivesSaid q (form_said (head_seen k) ws) in
    gives_form h k r ws e (subst P (sym f) (option_gives o (form_said (head_seen k) ws) g))
