-- A daemon's node takes a step, or only the daemon changes.
use Rattle.std.proofs.Common.{◌≡◌, ◌<◌, ◌≤◌, ◌^◌, ℕ, Bool, true, false, List, [], ◌∷◌, ◌++◌, Option, Some, None, refl, sym, ap, ◌∙◌, subst, inl, inr, arith, append-nil}
use Rattle.std.specs.Prelude.{◌⊎◌, map}
use Rattle.rsct_packet.specs.Lists.{reverse_onto}
use Rattle.rsct_packet.specs.Search.{Has}
use Rattle.rsct_packet.proofs.HasLaws.{has_append, append_has_left, append_has_right}
use Rattle.provider_laws.proofs.resting.Law.{Resting}
use Rattle.node_state.specs.declared.config.Config.{Config}
use Rattle.node_state.specs.declared.packet.Packet.{Packet}
use Rattle.node_state.specs.declared.state.Core.{Core}
use Rattle.node_state.specs.HandOn.{Answering}
use Rattle.node_state.specs.Bytes.{packet_of}
use Rattle.node_state.specs.Step.{NodeEvent, at_work, stepped}
use Rattle.world_model.specs.World.{World}
use Rattle.world_laws.specs.world_answers.Answers.{Answered, goes_on}
use Rattle.step_refinement.specs.Rules.{at_node}
use Rattle.step_refinement.proofs.Changed.{set_here, each_set}
use Rattle.world_safety.specs.Events.{MayHappen}
use Rattle.world_safety.specs.Mirrors.{core_at, inc_at}
use Rattle.piece_link.specs.Pieces.{Message, can_cut, message_by, pieces_of}
use Rattle.piece_link.specs.Answers.{Among, CanBeCut, SameKey, AreDistinct}
use Rattle.daemon_model.specs.Sent.{piece_to, calls_if, number_if, message_calls, OfNothing, Exchange, said, sent_calls, number_after}
use Rattle.daemon_model.specs.Daemon.{Daemon, stepped_by, left_for, stepped_for}
use Rattle.network_model.specs.Network.{Net, made_since, noted_since, went_on}
use Rattle.network_model.specs.Fits.{IsSend}
use Rattle.network_safety.proofs.Quiet.{IsTalk, step_rests}
use Rattle.network_safety.proofs.Messages.{message_of, messages_in, in_messages, IsOne, each_one, IsOneMessage, each_message, after_le, own_distinct, distinct_both, one_fits, goes_cut}
use Rattle.network_safety.proofs.Joins.{IsJoinedOf}
use Rattle.network_safety.proofs.WorldSteps.{Leaves}
use Rattle.network_laws.proofs.Going.{made_is, noted_is}
use Rattle.network_safety.proofs.Standing.{IsCore, stands_on, IsBefore, IsPast, IsUp, IsUpIf, IsMade, made_later, known_later, Wires, Stand}

-- which daemon it is stays
pub step_who : (f : Answering) (e : NodeEvent) (d : Daemon) → ((stepped_by f e d).me ≡ d.me) × ((stepped_by f e d).incarnation ≡ d.incarnation)
unfolding stepped_for left_for
step_who f e d = (refl, refl)

-- a step made the second daemon of the first, whatever became of sessions
pub record StepsTo (f : Answering) (e : NodeEvent) (d g : Daemon) : Type 0 where
  pub me : g.me ≡ d.me
  pub incarnation : g.incarnation ≡ d.incarnation
  pub core : g.core ≡ at_work (stepped f d.core e)
  pub joining : g.joining ≡ d.joining
  pub number : g.number ≡ number_after d.number (stepped f d.core e).sends
  pub calls : g.calls ≡ d.calls ++ sent_calls d.me d.incarnation d.number (stepped f d.core e).sends
  pub records : g.records ≡ d.records ++ (stepped f d.core e).records

pub steps_to : (f : Answering) (e : NodeEvent) (d : Daemon) → StepsTo f e d (stepped_by f e d)
unfolding stepped_for left_for
steps_to f e d = record { me = refl; incarnation = refl; core = refl; joining = refl; number = refl; calls = refl; records = refl }

-- no send
abbrev pub IsNoSend : Exchange → Type 0
IsNoSend x = (x.of ≡ OfNothing) × ((b : List ℕ) → IsSend b x.call → ⊥)

module _ (net : Net) (w : World) (k : Wires net w) (n : ℕ) (d : Daemon) (at : net.daemons n ≡ Some d) where
  pub own_up : IsUp k.messages n (net.incarnations n) d
  own_up = subst (IsUpIf k.messages n (net.incarnations n)) at (k.up n)

  own_before : (m : Message) → Among m k.all → m.sender ≡ n → m.incarnation ≡ d.incarnation → m.number < d.number
  own_before m h is =
      let q : IsBefore m (net.daemons n) = subst (λ j. IsBefore m (net.daemons j)) is (k.past m h).before in
      subst (IsBefore m) at q

  -- it goes on, in a world in which what was sent stays so: what it sends are pieces of what it cut before, or now
  pub record GoesTo (v : World) (e : Daemon) : Type 0 where
    pub old : (p : Packet) → Has p w.sent → Has p v.sent
    pub me : e.me ≡ d.me
    pub incarnation : e.incarnation ≡ d.incarnation
    pub later : d.number ≤ e.number
    pub rests : Resting e.core
    pub joined : IsJoinedOf k.messages e.joining
    pub new : List Message
    pub each : (m : Message) → Among m new → IsOneMessage d.me d.incarnation d.number e.number m
    pub distinct : AreDistinct new
    pub made : (x : Exchange) → Among x (made_since d e) → IsMade (k.all ++ new) v x.call x.of

  module _ (v : World) (e : Daemon) (g : GoesTo v e) where
    apart : (m l : Message) → Among m k.all → Among l g.new → SameKey m l → ⊥
    apart m l hm hl same =
        let o : IsOneMessage d.me d.incarnation d.number e.number l = g.each l hl in
        let less : m.number < d.number = own_before m hm (same.sender ∙ o.sender ∙ own_up.me) (same.incarnation ∙ o.incarnation) in
        let from : d.number ≤ l.number = o.from in
        let eq : m.number ≡ l.number = same.number in
        absurd (omega (arith, less, from, eq))

    old_past : (m : Message) → Among m k.all → IsPast (went_on n d e net) m
    unfolding went_on
    old_past m h =
        record {
          incarnation = (k.past m h).incarnation;
          before = each_set (λ j o. m.sender ≡ j → IsBefore m o) net.daemons n (Some e) (λ at_n same. within at_n (same ∙ g.incarnation)) (λ j ne at_j. subst (λ i. IsBefore m (net.daemons i)) at_j (k.past m h).before) m.sender refl;
        }
      where
        within : m.sender ≡ n → m.incarnation ≡ d.incarnation → m.number < e.number
        within at_n same =
            let less : m.number < d.number = own_before m h at_n same in
            let later : d.number ≤ e.number = g.later in
            omega (arith, less, later)

    new_past : (m : Message) → Among m g.new → IsPast (went_on n d e net) m
    unfolding went_on
    new_past m h =
        let o : IsOneMessage d.me d.incarnation d.number e.number m = g.each m h in
        let at_n : m.sender ≡ n = o.sender ∙ own_up.me in
        let eq : m.incarnation ≡ net.incarnations m.sender = o.incarnation ∙ own_up.incarnation ∙ ap net.incarnations (sym at_n) in
        record {
          incarnation = omega (arith, eq);
          before = subst (λ j. IsBefore m (at_node net.daemons n (Some e) j)) (sym at_n) (subst (IsBefore m) (sym (set_here net.daemons n (Some e))) (λ same. o.below));
        }

    pub wires_on : Wires (went_on n d e net) v
    unfolding went_on
    wires_on =
        record {
          all = k.all ++ g.new;
          past = λ m h. elim (has_append m k.all g.new h) [ inl i ↦ old_past m i | inr i ↦ new_past m i ];
          distinct = distinct_both k.all g.new k.distinct g.distinct apart;
          made = λ x h. elim (has_append x net.wire (made_since d e) h) [
            | inl i ↦ made_later k.all (k.all ++ g.new) w v g.old (λ m j. append_has_left m k.all g.new j) x.call x.of (k.made x i)
            | inr i ↦ g.made x i
          ];
          messages = k.messages;
          sent = λ m h. append_has_left m k.all g.new (k.sent m h);
          fits = k.fits;
          known = λ m h. known_later w v g.old m.bytes (k.known m h);
          up = each_set (λ m o. IsUpIf k.messages m (net.incarnations m) o) net.daemons n (Some e) (record { most = own_up.most; fits = own_up.fits; me = g.me ∙ own_up.me; incarnation = g.incarnation ∙ own_up.incarnation; rests = g.rests; joined = g.joined }) (λ m ne. k.up m);
        }

  -- it sends nothing
  quiet_goes : (e : Daemon) → e.core ≡ d.core → e.me ≡ d.me → e.incarnation ≡ d.incarnation → e.number ≡ d.number → IsJoinedOf k.messages e.joining → ((x : Exchange) → Among x (made_since d e) → IsNoSend x) → GoesTo w e
  quiet_goes e core me inc number joined quiet =
      record {
        old = λ p h. h;
        me = me;
        incarnation = inc;
        later = omega (arith, number);
        rests = subst Resting (sym core) own_up.rests;
        joined = joined;
        new = [];
        each = λ m h. absurd h;
        distinct = λ m l h i same. absurd h;
        made = λ x h. (let q = quiet x h in subst (IsMade (k.all ++ []) w x.call) (sym q.0) q.1);
      }

  -- ---- it sends a message that is no packet

  pub record Says (network : ℕ) (bytes : List ℕ) (e : Daemon) : Type 0 where
    pub core : e.core ≡ d.core
    pub me : e.me ≡ d.me
    pub incarnation : e.incarnation ≡ d.incarnation
    pub joining : e.joining ≡ d.joining
    pub number : e.number ≡ number_if (can_cut bytes) d.number
    pub calls : e.calls ≡ d.calls ++ map (said d.number) (message_calls d.me d.incarnation d.number 0 network bytes)

  module _ (network : ℕ) (bytes : List ℕ) (none : packet_of bytes ≡ None) (e : Daemon) (says : Says network bytes e) where
    abbrev spoken : Message
    spoken = message_by d.me d.incarnation d.number bytes

    abbrev spoken_if : Bool → List Exchange
    spoken_if b = map (said d.number) (calls_if b (map (piece_to 0 network) (pieces_of spoken)))

    itself : (m : Message) → Among m (spoken ∷ []) → m ≡ spoken
    itself m (inl is) = is
    itself m (inr h) = absurd h

    one_made : (d.number < 2 ^ 64 → CanBeCut spoken) → (bs : List (List ℕ)) → ((b : List ℕ) → Among b bs → Among b (pieces_of spoken)) → (x : Exchange) → Among x (map (said d.number) (map (piece_to 0 network) bs)) → IsMade (k.all ++ spoken ∷ []) w x.call x.of
    one_made fits [] within x h = absurd h
    one_made fits (b ∷ bs) within x (inl is) =
        subst (λ (z : Exchange). IsMade (k.all ++ spoken ∷ []) w z.call z.of) (sym is) (λ c same. record { message = spoken; among = append_has_right spoken k.all (spoken ∷ []) (inl refl); fits = fits; none = none; piece = subst (λ z. Among z (pieces_of spoken)) same (within b (inl refl)) })
    one_made fits (b ∷ bs) within x (inr h) = one_made fits bs (λ c i. within c (inr i)) x h

    goes_if : (b : Bool) → can_cut bytes ≡ b → e.number ≡ number_if b d.number → e.calls ≡ d.calls ++ spoken_if b → GoesTo w e
    goes_if false cut number calls =
        quiet_goes e says.core says.me says.incarnation number (subst (IsJoinedOf k.messages) (sym says.joining) own_up.joined) (λ x h. absurd (subst (Among x) (made_is d e [] calls) h))
    goes_if true cut number calls =
        let fits : d.number < 2 ^ 64 → CanBeCut spoken = λ small. one_fits spoken (subst (λ j. j ≤ 32) (sym own_up.me) own_up.most) (subst (λ j. j < 2 ^ 32) (sym own_up.incarnation) own_up.fits) small cut in
        record {
          old = λ p h. h;
          me = says.me;
          incarnation = says.incarnation;
          later = omega (arith, number);
          rests = subst Resting (sym says.core) own_up.rests;
          joined = subst (IsJoinedOf k.messages) (sym says.joining) own_up.joined;
          new = spoken ∷ [];
          each = λ m h. subst (IsOneMessage d.me d.incarnation d.number e.number) (sym (itself m h)) (record { sender = refl; incarnation = refl; from = omega arith; below = omega (arith, number) });
          distinct = λ m l h i same. itself m h ∙ sym (itself l i);
          made = λ x h. one_made fits (pieces_of spoken) (λ b i. i) x (subst (Among x) (made_is d e (spoken_if true) calls) h);
        }

    says_goes : GoesTo w e
    says_goes = goes_if (can_cut bytes) refl says.number says.calls

module _ (c : Config) (net : Net) (es : List Answered) (w : World) (k : Stand c net es w) (n : ℕ) (d : Daemon) (at : net.daemons n ≡ Some d) where
  abbrev own : IsUp k.wires.messages n (net.incarnations n) d
  own = own_up net w k.wires n d at

  -- ---- the node takes a step

  module _ (f : Answering) (e : NodeEvent) (a : Answered) (y : Core) where
    -- the node of the world comes to what the daemon's comes to
    pub record IsStep : Type 0 where
      pub may : MayHappen c a.event
      pub leaves : Leaves w (goes_on w a) n (Some y) (inc_at w.starts n) y.records y.sends
      pub core : at_work y ≡ at_work (stepped f d.core e)
      pub records : y.records ≡ (stepped f d.core e).records
      pub sends : (p : Packet) → Has p (stepped f d.core e).sends → IsTalk p.body ⊎ Has p y.sends

    module _ (s : IsStep) where
      abbrev sends : List Packet
      sends = (stepped f d.core e).sends

      abbrev new : List Exchange
      new = sent_calls d.me d.incarnation d.number sends

      new_made : (x : Exchange) → Among x new → IsMade (k.wires.all ++ messages_in new) (goes_on w a) x.call x.of
      new_made x h =
          let o : IsOne d.me d.incarnation d.number (number_after d.number sends) sends x = each_one d.me d.incarnation d.number sends x h in
          subst (IsMade (k.wires.all ++ messages_in new) (goes_on w a) x.call) (sym o.is) (record {
            sender = subst (λ j. j ≤ 32) (sym (o.sender ∙ own.me)) own.most;
            incarnation = subst (λ j. j < 2 ^ 32) (sym (o.incarnation ∙ own.incarnation)) own.fits;
            cut = goes_cut o.of.packet o.goes;
            known = elim (s.sends o.of.packet o.has) [ inl t ↦ inl t | inr i ↦ inr (s.leaves.new o.of.packet i) ];
            among = append_has_right (message_of o.of) k.wires.all (messages_in new) (in_messages new x o.of h o.is);
            piece = o.piece;
          })

      module _ (g : Daemon) (t : StepsTo f e d g) where
        step_goes : GoesTo net w k.wires n d at (goes_on w a) g
        step_goes =
            let le : d.number ≤ number_after d.number sends = after_le d.number sends in
            record {
              old = s.leaves.old;
              me = t.me;
              incarnation = t.incarnation;
              later = subst (λ i. d.number ≤ i) (sym t.number) le;
              rests = subst Resting (sym t.core) (step_rests f d.core e own.rests);
              joined = subst (IsJoinedOf k.wires.messages) (sym t.joining) own.joined;
              new = messages_in new;
              each = λ m h. subst (λ i. IsOneMessage d.me d.incarnation d.number i m) (sym t.number) (each_message d.me d.incarnation d.number sends m h);
              distinct = own_distinct d.me d.incarnation d.number sends;
              made = λ x h. new_made x (subst (Among x) (made_is d g new t.calls) h);
            }

        pub step_stands : Stand c (went_on n d g net) (es ++ a ∷ []) (goes_on w a)
        unfolding went_on
        step_stands =
            record {
              world = stands_on c net es w k.world a s.may n (Some g) (Some y) (inc_at w.starts n) y.records y.sends s.leaves (s.core ∙ sym t.core) (went_on n d g net) refl (k.world.incs n) (λ m ne. refl) (ap (λ xs. net.records ++ xs) (noted_is d g (stepped f d.core e).records t.records ∙ sym s.records));
              wires = wires_on net w k.wires n d at (goes_on w a) g step_goes;
            }

  -- ---- only the daemon changes

  module _ (e : Daemon) (core : e.core ≡ d.core) (still : noted_since d e ≡ []) (goes : GoesTo net w k.wires n d at w e) where
    only_stands : Stand c (went_on n d e net) es w
    unfolding went_on
    only_stands =
        record {
          world = record {
            may = k.world.may;
            is = k.world.is;
            nodes = each_set (λ m o. IsCore o (core_at w.nodes m)) net.daemons n (Some e) here (λ m ne. k.world.nodes m);
            incs = k.world.incs;
            trace = k.world.trace ∙ ap (λ zs. reverse_onto zs []) (sym (ap (λ xs. net.records ++ xs) still ∙ append-nil net.records));
            paired = k.world.paired;
          };
          wires = wires_on net w k.wires n d at w e goes;
        }
      where
        here : IsCore (Some e) (core_at w.nodes n)
        here = same (core_at w.nodes n) (subst (λ o. IsCore o (core_at w.nodes n)) at (k.world.nodes n))
          where
            same : (o : Option Core) → IsCore (Some d) o → IsCore (Some e) o
            same None h = absurd h
            same (Some s) h = h ∙ sym core

  pub keeps_stands : (e : Daemon) → e.core ≡ d.core → e.me ≡ d.me → e.incarnation ≡ d.incarnation → e.number ≡ d.number → IsJoinedOf k.wires.messages e.joining → ((x : Exchange) → Among x (made_since d e) → IsNoSend x) → noted_since d e ≡ []
      → Stand c (went_on n d e net) es w
  keeps_stands e core me inc number joined quiet still = only_stands e core still (quiet_goes net w k.wires n d at e core me inc number joined quiet)

  pub says_stands : (network : ℕ) (bytes : List ℕ) → packet_of bytes ≡ None → (e : Daemon) → Says net w k.wires n d at network bytes e → noted_since d e ≡ [] → Stand c (went_on n d e net) es w
  says_stands network bytes none e says still = only_stands e says.core still (says_goes net w k.wires n d at network bytes none e says)
