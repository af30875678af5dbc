-- The text of each kind of line, piece by piece as it is put.
use Rattle.std.proofs.Common.{◌≡◌, ℕ, Bool, true, false, List, [], ◌∷◌, ◌++◌, Option, refl, sym, ◌∙◌, ap, append_assoc}
use Rattle.std.specs.Prelude.{◌==◌, codes, decimal}
use Rattle.std.proofs.lemmas.Bool.Decides.{nat_tests}
use Rattle.std.proofs.Common.{arith}
use Rattle.rsct_packet.specs.declared.ids.Member.{Member}
use Rattle.rsct_packet.specs.declared.ids.ProtoId.{ProtoId}
use Rattle.rsct_packet.specs.declared.ids.ProviderId.{ProviderId}
use Rattle.rsct_packet.specs.declared.ids.RingId.{RingId}
use Rattle.rsct_packet.specs.declared.ids.ViewId.{ViewId}
use Rattle.rsct_packet.specs.Lists.{is_empty}
use Rattle.proposal_core.specs.declared.entry.Entry.{Entry}
use Rattle.proposal_core.specs.declared.entry.Vote.{Vote}
use Rattle.client_callbacks.specs.declared.told.Why.{Why}
use Rattle.session_state.specs.declared.fault.GsFault.{GsFault}
use Rattle.value_words.specs.Wording.{word, view_text, provider_text, ring_text, proto_text, nodes_text, members_text, providers_text, escaped, value_text}
use Rattle.value_words.specs.Words.{push_head, split_on}
use Rattle.value_words.proofs.SplitLaws.{some_piece}
use Rattle.entry_words.specs.Wording.{entry_text, why_text, fault_text}
use Rattle.word_laws.specs.declared.kind.Kind.{Kind}
use Rattle.word_laws.specs.Values.{spaced}
use Rattle.record_lines.specs.declared.line.BaseLine.{BaseLine}
use Rattle.record_lines.specs.declared.line.Line.TheVariants as line
use Rattle.record_lines.specs.declared.line.Note.{Note}
use Rattle.record_lines.specs.declared.line.Note.TheVariants as note
use Rattle.record_lines.specs.declared.line.Status.TheVariants as status
use Rattle.record_lines.specs.declared.line.What.{What}
use Rattle.record_lines.specs.Writing.{kind_name, what_name, open_text, ballot_text, base_words, client_text, place_text, note_words, known_text, yes_or_no, status_words, words_of, line_text}

-- ---- pieces with a space between each two are what was cut

spaced_cons : (w : List ℕ) (ps : List (List ℕ)) → is_empty ps ≡ false → spaced (w ∷ ps) ≡ w ++ 32 ∷ spaced ps
unfolding spaced
spaced_cons w [] e = absurd cc
spaced_cons w (p ∷ ps) e = refl

spaced_push : (x : ℕ) (ps : List (List ℕ)) → is_empty ps ≡ false → spaced (push_head x ps) ≡ x ∷ spaced ps
unfolding spaced push_head
spaced_push x [] e = absurd cc
spaced_push x (p ∷ []) e = refl
spaced_push x (p ∷ q ∷ ps) e = refl

spaced_split : (b : List ℕ) → spaced (split_on 32 b) ≡ b
unfolding split_on spaced
spaced_split [] = refl
spaced_split (x ∷ b) = by (x == 32) refl (spaced_split b)
  where
    by : (t : Bool) → (x == 32) ≡ t → spaced (split_on 32 b) ≡ b → spaced (elim t [ true ↦ [] ∷ split_on 32 b | false ↦ push_head x (split_on 32 b) ]) ≡ x ∷ b
    by true e h =
        let same : x ≡ 32 = grind (arith, nat_tests) in
        spaced_cons [] (split_on 32 b) (some_piece 32 b) ∙ ap (λ z. 32 ∷ z) h ∙ ap (λ z. z ∷ b) (sym same)
    by false e h = spaced_push x (split_on 32 b) (some_piece 32 b) ∙ ap (λ z. x ∷ z) h

spaced_more : (w t : List ℕ) → spaced (w ∷ split_on 32 t) ≡ w ++ 32 ∷ t
spaced_more w t = spaced_cons w (split_on 32 t) (some_piece 32 t) ∙ ap (λ z. w ++ 32 ∷ z) (spaced_split t)

-- ---- each kind

pub up_is : (n j : ℕ) → line_text (line.Up n j) ≡ codes "up " ++ word (decimal n) ++ decimal j
unfolding line_text words_of spaced word
up_is n j = simp append_assoc refl

pub down_is : (n : ℕ) → line_text (line.Down n) ≡ codes "down " ++ decimal n
unfolding line_text words_of spaced
down_is n = refl

pub ring_is : (n net : ℕ) (r : RingId) (ms : List ℕ) (m : ℕ) → line_text (line.Ring n net r ms m) ≡ codes "ring " ++ word (decimal n) ++ word (decimal net) ++ word (ring_text r) ++ nodes_text ms ++ codes " " ++ decimal m
unfolding line_text words_of spaced word
ring_is n net r ms m = simp append_assoc refl

pub in_is : (n : ℕ) (v : ViewId) (ms : List Member) → line_text (line.In n v ms) ≡ codes "in " ++ word (decimal n) ++ word (view_text v) ++ members_text ms
unfolding line_text words_of spaced word
in_is n v ms = simp append_assoc refl

pub base_is : (n : ℕ) (v : ViewId) (g : List ℕ) (b : BaseLine)
    → line_text (line.Base n v g b)
    ≡ codes "base " ++ word (decimal n) ++ word (view_text v) ++ word g ++ word (view_text b.old) ++ word (decimal b.len) ++ word (providers_text b.members) ++ value_text b.value ++ codes " " ++ word (providers_text b.failed) ++ open_text b.running
unfolding line_text words_of base_words spaced word
base_is n v g b = simp append_assoc refl

pub put_is : (n : ℕ) (v : ViewId) (g : List ℕ) (i : ℕ) (e : Entry) → line_text (line.Put n v g i e) ≡ codes "put " ++ word (decimal n) ++ word (view_text v) ++ word g ++ word (decimal i) ++ entry_text e
unfolding line_text words_of spaced word
put_is n v g i e = rw (spaced_more (decimal i) (entry_text e)) (simp append_assoc refl)

pub heard_is : (p : ProviderId) (v : ViewId) (g : List ℕ) (i : ℕ) (w : What) (ms : List ProviderId) (value : List ℕ)
    → line_text (line.Heard p v g i w ms value)
    ≡ codes "heard " ++ word (provider_text p) ++ word (view_text v) ++ word g ++ word (decimal i) ++ what_name w ++ codes " " ++ word (providers_text ms) ++ value_text value
unfolding line_text words_of spaced word
heard_is p v g i w ms value = simp append_assoc refl

pub cast_is : (p : ProviderId) (proto : ProtoId) (phase : ℕ) (v : Vote) (value : Option (List ℕ)) → line_text (line.Cast p proto phase v value) ≡ codes "cast " ++ word (provider_text p) ++ word (proto_text proto) ++ word (decimal phase) ++ ballot_text v value
unfolding line_text words_of spaced word
cast_is p proto phase v value = simp append_assoc refl

pub asked_is : (p : ProviderId) (r : ℕ) (g : List ℕ) (k : Kind) → line_text (line.Asked p r g k) ≡ codes "asked " ++ word (provider_text p) ++ word (decimal r) ++ word g ++ kind_name k
unfolding line_text words_of spaced word
asked_is p r g k = simp append_assoc refl

pub told_is : (p : ProviderId) (r : ℕ) (w : Why) → line_text (line.Told p r w) ≡ codes "told " ++ word (provider_text p) ++ word (decimal r) ++ why_text w
unfolding line_text words_of spaced word
told_is p r w = rw (spaced_more (decimal r) (why_text w)) (simp append_assoc refl)

-- whom a note is for, and what it says
noted_front : (a v t : List ℕ) → codes "noted " ++ (a ++ 32 ∷ (v ++ 32 ∷ t)) ≡ (codes "noted " ++ a ++ codes " " ++ word v) ++ t
unfolding word
noted_front a v t =
    let s : List ℕ = codes " " in
    ap (λ z. codes "noted " ++ z) (sym (append_assoc (a ++ s) (v ++ s) t ∙ (append_assoc a s ((v ++ s) ++ t) ∙ ap (λ z. a ++ 32 ∷ z) (append_assoc v s t))))

note_some : (place : Option ℕ) (m : Note) → is_empty (note_words place m) ≡ false
unfolding note_words
note_some place (note.Group g ms value) = refl
note_some place (note.Hosts ms) = refl

pub noted_is : (n : ℕ) (c : List ℕ) (v : ViewId) (place : Option ℕ) (m : Note) → line_text (line.Noted n c v place m) ≡ (codes "noted " ++ client_text n c ++ codes " " ++ word (view_text v)) ++ spaced (note_words place m)
unfolding line_text words_of spaced
noted_is n c v place m =
    ap (λ z. codes "noted " ++ (client_text n c ++ 32 ∷ z)) (spaced_cons (view_text v) (note_words place m) (note_some place m)) ∙ noted_front (client_text n c) (view_text v) (spaced (note_words place m))

four_words : (a b c d : List ℕ) → spaced (a ∷ b ∷ c ∷ d ∷ []) ≡ word a ++ b ++ codes " " ++ word c ++ d
unfolding spaced word
four_words a b c d = simp append_assoc refl

pub group_note_is : (place : Option ℕ) (g : List ℕ) (ms : List ProviderId) (value : List ℕ) → spaced (note_words place (note.Group g ms value)) ≡ word g ++ place_text place ++ codes " " ++ word (providers_text ms) ++ value_text value
unfolding note_words
group_note_is place g ms value = four_words g (place_text place) (providers_text ms) (value_text value)

pub hosts_note_is : (place : Option ℕ) (ms : List Member) → spaced (note_words place (note.Hosts ms)) ≡ word (codes "HostMembership") ++ place_text place ++ codes " " ++ word (members_text ms) ++ codes "="
unfolding note_words
hosts_note_is place ms = four_words (codes "HostMembership") (place_text place) (members_text ms) (codes "=")

pub refused_is : (n : ℕ) (c : List ℕ) (f : GsFault) → line_text (line.Refused n c f) ≡ codes "refused " ++ client_text n c ++ codes " " ++ fault_text f
unfolding line_text words_of spaced
refused_is n c f = rw (spaced_more (client_text n c) (fault_text f)) (simp append_assoc refl)

pub show_ring_is : (n net : ℕ) (r : RingId) (ms : List ℕ) (m : ℕ)
    → line_text (line.Show n (status.Ring net r ms m))
    ≡ (codes "show " ++ word (decimal n) ++ codes "hats " ++ word (decimal net) ++ word (ring_text r)) ++ codes "members=" ++ nodes_text ms ++ codes " neighbour=" ++ decimal m
unfolding line_text words_of status_words spaced word
show_ring_is n net r ms m = simp append_assoc refl

pub show_view_is : (n : ℕ) (v : ViewId) (ms : List Member) (t : Bool)
    → line_text (line.Show n (status.View v ms t))
    ≡ codes "show " ++ word (decimal n) ++ codes "hagsns " ++ view_text v ++ codes " coord=" ++ decimal v.coord ++ codes " members=" ++ members_text ms ++ codes " frozen=" ++ yes_or_no t
unfolding line_text words_of status_words spaced word
show_view_is n v ms t = simp append_assoc refl

pub show_group_is : (n : ℕ) (g : List ℕ) (leader : Option ℕ) (len : ℕ) (ms : List ProviderId) (value : List ℕ)
    → line_text (line.Show n (status.Group g leader len ms value))
    ≡ codes "show " ++ word (decimal n) ++ codes "hagsgr " ++ g ++ codes " leader=" ++ known_text decimal leader ++ codes " len=" ++ decimal len ++ codes " members=" ++ providers_text ms ++ codes " value=" ++ escaped value
unfolding line_text words_of status_words spaced word
show_group_is n g leader len ms value = simp append_assoc refl

pub show_vote_is : (n : ℕ) (g : List ℕ) (proto : ProtoId) (phase : ℕ) (k : Kind) (waiting : Option (List ProviderId))
    → line_text (line.Show n (status.Vote g proto phase k waiting))
    ≡ codes "show " ++ word (decimal n) ++ codes "hagsvote " ++ g ++ codes " " ++ proto_text proto ++ codes " phase=" ++ decimal phase ++ codes " kind=" ++ kind_name k ++ codes " waiting=" ++ known_text providers_text waiting
unfolding line_text words_of status_words spaced word
show_vote_is n g proto phase k waiting = simp append_assoc refl
