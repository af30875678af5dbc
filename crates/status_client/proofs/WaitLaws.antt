-- Receives, one after the other.
use Rattle.std.proofs.Common.{◌≡◌, ℕ, ◌+◌, ◌<◌, ◌≤◌, List, [], ◌∷◌, ◌++◌, map, Option, Some, None, refl, sym, ◌∙◌, ap, subst, arith}
use Rattle.std.specs.Prelude.{option_map}
use Rattle.std.proofs.lemmas.List.{length-append, map-append}
use Rattle.hags_io.specs.declared.link.LinkCall.{LinkCall}
use Rattle.hags_io.specs.Deeds.{Exchanged}
use Rattle.hags_io.specs.Telling.{Telling, Did}
use Rattle.hags_io.proofs.DeedLaws.{did_none, did_on}
use Rattle.daemon_model.specs.Daemon.{joined_by, network_of}
use Rattle.daemon_model.specs.Lives.{most_failed}
use Rattle.link_use.specs.declared.receiving.Receiving.{Receiving}
use Rattle.link_use.specs.Receiving.{IsReceive, Receives}
use Rattle.status_client.specs.declared.question.Question.{Question}
use Rattle.status_client.specs.declared.waiting.Waiting.{Waiting}
use Rattle.status_client.specs.Question.{answer_of, reply_to}
use Rattle.status_client.specs.Waiting.{heard, heard_all, answer_by, GoesOn}
use Rattle.status_client.specs.Asked.{Hears, WaitsOn, Answered, Unanswered, Failing}

-- ---- one receive

no_message : (n : ℕ) (o : Option (List ℕ)) → ◌≡◌ {A = Option (ℕ × List ℕ)} None (option_map (λ m. (n, m)) o) → o ≡ None
no_message n None e = refl
no_message n (Some m) e = absurd cc

second : Option (ℕ × List ℕ) → List ℕ
second None = []
second (Some x) = x.1

one_message : (n network : ℕ) (message : List ℕ) (o : Option (List ℕ)) → ◌≡◌ {A = Option (ℕ × List ℕ)} (Some (network, message)) (option_map (λ m. (n, m)) o) → o ≡ Some message
unfolding second
one_message n network message None e = absurd cc
one_message n network message (Some m) e = ap Some (sym (ap second e))

pub hears_none : (r : Waiting) (q : Receiving) (t u : Telling) → Receives r.receiving q None t u → Hears r (record r { receiving = q }) None t u
unfolding answer_by
hears_none r q t u h = record {
  got = h.got;
  receive = h.receive;
  told = h.told;
  answer = sym (ap (answer_of r.question) (no_message (network_of h.got) (joined_by h.got r.receiving.joiner).message h.whole_is));
  is = h.is;
  same = refl;
}

pub hears_whole : (r : Waiting) (q : Receiving) (network : ℕ) (message : List ℕ) (text : Option (List ℕ)) (t u : Telling) → Receives r.receiving q (Some (network, message)) t u → text ≡ reply_to r.question message → Hears r (record r { receiving = q }) text t u
unfolding answer_by
hears_whole r q network message text t u h is = record {
  got = h.got;
  receive = h.receive;
  told = h.told;
  answer = is ∙ sym (ap (answer_of r.question) (one_message (network_of h.got) network message (joined_by h.got r.receiving.joiner).message h.whole_is));
  is = h.is;
  same = refl;
}

pub of_text : {V : Type 0} (items : V → List ℕ) (r s : Waiting) (o p : Option V) (t u : Telling) → o ≡ p → Hears r s (option_map items o) t u → Hears r s (option_map items p) t u
of_text items r s o p t u e h = subst (λ x. Hears r s (option_map items x) t u) e h

-- ---- one after the other

heard_last : (w : Receiving) (gots : List LinkCall) (got : LinkCall) → heard_all w (gots ++ got ∷ []) ≡ heard (heard_all w gots) got
unfolding heard_all
heard_last w [] got = refl
heard_last w (x ∷ gots) got = heard_last (heard w x) gots got

goes_on_last : (question : Question) (w : Receiving) (gots : List LinkCall) (got : LinkCall) → GoesOn question w gots → IsReceive got → answer_by question (heard_all w gots) got ≡ None → (heard (heard_all w gots) got).failed < most_failed
    → GoesOn question w (gots ++ got ∷ [])
unfolding heard_all
goes_on_last question w [] got h receive none below = (receive, none, below, tt)
goes_on_last question w (x ∷ gots) got h receive none below = (h.0, h.1, h.2, goes_on_last question (heard w x) gots got h.3 receive none below)

told_last : (t u v : Telling) (gots : List LinkCall) (got : LinkCall) → Did t u (map Exchanged gots) → Did u v (Exchanged got ∷ []) → Did t v (map Exchanged (gots ++ got ∷ []))
told_last t u v gots got p q = subst (Did t v) (sym (map-append Exchanged gots (got ∷ []))) (did_on t u v (map Exchanged gots) (Exchanged got ∷ []) p q)

-- what a receive is, seen from the first one
answer_then : (r s q : Waiting) (count : ℕ) (text : Option (List ℕ)) (t u v : Telling) (p : WaitsOn r s count t u) (n : Hears s q text u v) → text ≡ answer_by r.question (heard_all r.receiving p.gots) n.got
answer_then r s q count text t u v p n =
    n.answer ∙ (ap (λ (k : Question). answer_by k s.receiving n.got) p.same ∙ ap (λ (w : Receiving). answer_by r.question w n.got) p.is)

heard_then : (r s q : Waiting) (count : ℕ) (text : Option (List ℕ)) (t u v : Telling) (p : WaitsOn r s count t u) (n : Hears s q text u v) → q.receiving ≡ heard (heard_all r.receiving p.gots) n.got
heard_then r s q count text t u v p n = n.is ∙ ap (λ (w : Receiving). heard w n.got) p.is

pub waits_none : (r : Waiting) (t : Telling) → WaitsOn r r 0 t t
unfolding heard_all
waits_none r t = record { gots = []; told = did_none t; so_many = refl; waits = tt; is = refl; same = refl }

pub waits_next : (r s q : Waiting) (i : ℕ) (t u v : Telling) → WaitsOn r s i t u → Hears s q None u v → q.receiving.failed < most_failed → WaitsOn r q (i + 1) t v
waits_next r s q i t u v p n below = record {
  gots = p.gots ++ n.got ∷ [];
  told = told_last t u v p.gots n.got p.told n.told;
  so_many = length-append p.gots (n.got ∷ []) ∙ ap (λ k. k + 1) p.so_many;
  waits = goes_on_last r.question r.receiving p.gots n.got p.waits n.receive (sym (answer_then r s q i None t u v p n)) (subst (λ (w : Receiving). w.failed < most_failed) (heard_then r s q i None t u v p n) below);
  is = heard_then r s q i None t u v p n ∙ sym (heard_last r.receiving p.gots n.got);
  same = n.same ∙ p.same;
}

pub waits_answered : (r s q : Waiting) (i count : ℕ) (text : List ℕ) (t u v : Telling) → i < count → WaitsOn r s i t u → Hears s q (Some text) u v → Answered r.question count r.receiving text t v
waits_answered r s q i count text t u v lt p n = record {
  before = p.gots;
  last = n.got;
  told = told_last t u v p.gots n.got p.told n.told;
  at_most = rw p.so_many lt;
  waits = p.waits;
  receive = n.receive;
  answer = answer_then r s q i (Some text) t u v p n;
}

pub waits_failing : (r s q : Waiting) (i count : ℕ) (t u v : Telling) → i < count → WaitsOn r s i t u → Hears s q None u v → most_failed ≤ q.receiving.failed → Failing r.question count r.receiving t v
waits_failing r s q i count t u v lt p n at = record {
  before = p.gots;
  last = n.got;
  told = told_last t u v p.gots n.got p.told n.told;
  at_most = rw p.so_many lt;
  waits = p.waits;
  receive = n.receive;
  unanswered = answer_then r s q i None t u v p n;
  failed = subst (λ (w : Receiving). most_failed ≤ w.failed) (heard_then r s q i None t u v p n) at;
}

pub waits_all : (r s : Waiting) (i count : ℕ) (t u : Telling) → i ≤ count → count ≤ i → WaitsOn r s i t u → Unanswered r.question count r.receiving t u
waits_all r s i count t u le ge p = let e : i ≡ count = omega arith in record { gots = p.gots; told = p.told; so_many = p.so_many ∙ e; waits = p.waits }
