-- Turns, one after the other.
use Rattle.std.proofs.Common.{◌≡◌, ℕ, ◌+◌, ◌<◌, ◌≤◌, List, [], ◌∷◌, ◌++◌, length, refl, sym, ◌∙◌, ap, subst, append_assoc, append-nil, arith}
use Rattle.std.proofs.lemmas.List.{length-append}
use Rattle.hags_io.specs.declared.link.LinkCall.{LinkCall}
use Rattle.hags_io.specs.Telling.{Telling}
use Rattle.hags_io.specs.Fronts.{Went, WentFront}
use Rattle.hags_io.proofs.FrontLaws.{went_nothing, went_on, all_went, went_front_on}
use Rattle.remote_session.specs.declared.far.DownSeen.{DownSeen}
use Rattle.daemon_model.specs.Lives.{most_failed}
use Rattle.link_use.specs.Receiving.{IsReceive}
use Rattle.client_run.specs.declared.client.Client.{Client}
use Rattle.client_run.specs.Turns.{turned, turn_deeds, turn_seen, turned_all, all_deeds}
use Rattle.client_run.specs.Running.{Stays, TurnsAs, TurnEnds, TurnFront, GoesOn, Done, Answered, Unanswered, Ended, Failing, Front}

module _ (lines : List (List ℕ)) where
  -- ---- the last turn

  turned_last : (c : Client) (gots : List LinkCall) (got : LinkCall) → turned_all lines c (gots ++ got ∷ []) ≡ turned lines (turned_all lines c gots) got
  unfolding turned_all
  turned_last c [] got = refl
  turned_last c (g ∷ gots) got = turned_last (turned lines c g) gots got

  deeds_last : (c : Client) (gots : List LinkCall) (got : LinkCall) → all_deeds lines c (gots ++ got ∷ []) ≡ all_deeds lines c gots ++ turn_deeds lines (turned_all lines c gots) got
  unfolding turned_all all_deeds
  deeds_last c [] got = append-nil (turn_deeds lines c got)
  deeds_last c (g ∷ gots) got =
      ap (λ t. turn_deeds lines c g ++ t) (deeds_last (turned lines c g) gots got)
      ∙ sym (append_assoc (turn_deeds lines c g) (all_deeds lines (turned lines c g) gots) (turn_deeds lines (turned_all lines (turned lines c g) gots) got))

  goes_last : (c : Client) (gots : List LinkCall) (got : LinkCall) → GoesOn lines c gots → IsReceive got → Stays (turn_seen lines (turned_all lines c gots) got) → (turned lines (turned_all lines c gots) got).receiving.failed < most_failed
      → GoesOn lines c (gots ++ got ∷ [])
  unfolding turned_all
  goes_last c [] got h receive stays below = (receive, stays, below, tt)
  goes_last c (g ∷ gots) got h receive stays below = (h.0, h.1, h.2, goes_last (turned lines c g) gots got h.3 receive stays below)

  went_last : (c : Client) (gots : List LinkCall) (got : LinkCall) (t u v : Telling) → Went t u (all_deeds lines c gots) → Went u v (turn_deeds lines (turned_all lines c gots) got) → Went t v (all_deeds lines c (gots ++ got ∷ []))
  went_last c gots got t u v p w = subst (Went t v) (sym (deeds_last c gots got)) (went_on t u v _ _ p w)

  one_more : (gots : List LinkCall) (got : LinkCall) (i : ℕ) → length gots ≡ i → length (gots ++ got ∷ []) ≡ i + 1
  one_more gots got i h = length-append gots (got ∷ []) ∙ ap (λ n. n + 1) h

  -- ---- turns that are done

  pub done_none : (c : Client) (t : Telling) → Done lines c c 0 t t
  unfolding turned_all all_deeds
  done_none c t = record { gots = []; so_many = refl; went = went_nothing t; goes = tt; is = refl }

  pub done_next : (c s r : Client) (i : ℕ) (t u v : Telling) → Done lines c s i t u → TurnsAs lines s r u v → r.receiving.failed < most_failed → Done lines c r (i + 1) t v
  done_next c s r i t u v p turn below =
      let q : TurnsAs lines (turned_all lines c p.gots) r u v = subst (λ (x : Client). TurnsAs lines x r u v) p.is turn in
      record {
        gots = p.gots ++ q.got ∷ [];
        so_many = one_more p.gots q.got i p.so_many;
        went = went_last c p.gots q.got t u v p.went q.went;
        goes = goes_last c p.gots q.got p.goes q.receive q.stays (subst (λ (x : Client). x.receiving.failed < most_failed) q.is below);
        is = q.is ∙ sym (turned_last c p.gots q.got);
      }

  pub answered : (c s : Client) (i turns : ℕ) (t u : Telling) → Done lines c s i t u → i ≡ turns → length lines ≤ s.answered → Answered lines c turns t u
  answered c s i turns t u p e le = record { gots = p.gots; so_many = p.so_many ∙ e; went = p.went; goes = p.goes; answered = subst (λ (x : Client). length lines ≤ x.answered) p.is le }

  pub unanswered : (c s : Client) (i turns : ℕ) (t u : Telling) → Done lines c s i t u → i ≡ turns → s.answered < length lines → Unanswered lines c turns t u
  unanswered c s i turns t u p e lt = record { gots = p.gots; so_many = p.so_many ∙ e; went = p.went; goes = p.goes; unanswered = subst (λ (x : Client). x.answered < length lines) p.is lt }

  -- ---- and the last of them

  pub ended : (P : DownSeen → Type 0) (c s : Client) (i turns : ℕ) (t u v : Telling) → i < turns → Done lines c s i t u → TurnEnds P lines s u v → Ended P lines c turns t v
  ended P c s i turns t u v lt p turn =
      let q : TurnEnds P lines (turned_all lines c p.gots) u v = subst (λ (x : Client). TurnEnds P lines x u v) p.is turn in
      record { before = p.gots; last = q.got; at_most = rw p.so_many lt; went = went_last c p.gots q.got t u v p.went q.went; goes = p.goes; receive = q.receive; ended = q.ended }

  pub failing : (c s r : Client) (i turns : ℕ) (t u v : Telling) → i < turns → Done lines c s i t u → TurnsAs lines s r u v → most_failed ≤ r.receiving.failed → Failing lines c turns t v
  failing c s r i turns t u v lt p turn above =
      let q : TurnsAs lines (turned_all lines c p.gots) r u v = subst (λ (x : Client). TurnsAs lines x r u v) p.is turn in
      record {
        before = p.gots;
        last = q.got;
        at_most = rw p.so_many lt;
        went = went_last c p.gots q.got t u v p.went q.went;
        goes = p.goes;
        receive = q.receive;
        failed = subst (λ (x : Client). most_failed ≤ x.receiving.failed) q.is above;
      }

  -- a front of them was done
  pub front : (c s : Client) (i turns : ℕ) (t u v : Telling) → i < turns → Done lines c s i t u → TurnFront lines s u v → Front lines c turns t v
  front c s i turns t u v lt p turn =
      let q : TurnFront lines (turned_all lines c p.gots) u v = subst (λ (x : Client). TurnFront lines x u v) p.is turn in
      record {
        gots = p.gots ++ q.got ∷ [];
        at_most = rw (one_more p.gots q.got i p.so_many) (let le : i + 1 ≤ turns = omega arith in le);
        front = subst (WentFront t v) (sym (deeds_last c p.gots q.got)) (went_front_on t u v _ _ p.went q.front);
      }

  pub front_last : (c s r : Client) (i turns : ℕ) (t u v : Telling) → i < turns → Done lines c s i t u → TurnsAs lines s r u v → Front lines c turns t v
  front_last c s r i turns t u v lt p turn =
      let q : TurnsAs lines (turned_all lines c p.gots) r u v = subst (λ (x : Client). TurnsAs lines x r u v) p.is turn in
      record {
        gots = p.gots ++ q.got ∷ [];
        at_most = rw (one_more p.gots q.got i p.so_many) (let le : i + 1 ≤ turns = omega arith in le);
        front = all_went t v _ (went_last c p.gots q.got t u v p.went q.went);
      }

  pub front_all : (c s : Client) (i turns : ℕ) (t u : Telling) → i ≤ turns → Done lines c s i t u → Front lines c turns t u
  front_all c s i turns t u le p = record { gots = p.gots; at_most = rw p.so_many le; front = all_went t u _ p.went }
