-- A line that starts a node names it.
use Rattle.std.proofs.Common.{refl, ℕ, List, [], ◌∷◌, Option, Some, None, inl}
use Rattle.rsct_packet.specs.Search.{Has}
use Rattle.node_state.specs.declared.call.CallLine.{CallLine}
use Rattle.world_model.specs.declared.event.Event.{Event}
use Rattle.world_model.specs.declared.event.Event.TheVariants as event
use Rattle.world_model.specs.declared.script.Line.{Line}
use Rattle.world_model.specs.declared.script.Line.TheVariants as line
use Rattle.value_words.specs.Words.{◌>>=◌, node_word}
use Rattle.world_model.specs.Lines.{Head, HMode, HNode, HAdapter, HHb, HPort, HLevel, HDomain, HBegin, HStart, HStop, HAsk, HTick, HRun, HDeliver, HDrop, HFlow, HCut, HHeal, HGarbage, HShow, HClient, HJoin, HLeave, HExpel, HState, HMessage, HAttrs, HVote, HSubscribe, HUnsubscribe, HGoodbye, Said, SaysLine, says_one, says_event, says_two, says_call, said}

-- who starts is among these
abbrev pub StartsOf : List ℕ → Line → Type 0
StartsOf ns (line.Plain (event.Start n)) = Has n ns
StartsOf ns _ = Unit {0}

abbrev pub SaidWell : Said → Type 0
SaidWell (SaysLine ns l) = StartsOf ns l
SaidWell _ = Unit {0}

abbrev pub SaysWell : Option Said → Type 0
SaysWell None = Unit {0}
SaysWell (Some x) = SaidWell x

then_well : {X : Type 0} (o : Option X) (f : X → Option Said) → ((x : X) → SaysWell (f x)) → SaysWell (o >>= f)
unfolding ◌>>=◌
then_well None f h = tt
then_well (Some x) f h = h x

one_well : (f : ℕ → Said) → ((n : ℕ) → SaidWell (f n)) → (o : Option ℕ) → SaysWell (says_one f o)
unfolding says_one
one_well f h None = tt
one_well f h (Some n) = h n

event_well : (f : ℕ → Event) → ((n : ℕ) → StartsOf (n ∷ []) (line.Plain (f n))) → (w : List ℕ) → SaysWell (says_event f w)
unfolding says_event
event_well f h w = one_well (λ n. SaysLine (n ∷ []) (line.Plain (f n))) h (node_word w)

two_well : (f : ℕ → ℕ → Line) → ((n m : ℕ) → StartsOf (n ∷ m ∷ []) (f n m)) → (a b : List ℕ) → SaysWell (says_two f a b)
unfolding says_two
two_well f h a b = then_well _ _ (λ n. then_well _ _ (λ m. h n m))

call_well : (make : List ℕ → List ℕ → CallLine) (c g : List ℕ) → SaysWell (says_call make c g)
unfolding says_call
call_well make c g = then_well _ _ (λ client. then_well _ _ (λ group. tt))

pub said_well : (h : Head) (ws : List (List ℕ)) → SaysWell (said h ws)
unfolding said
said_well HMode (w ∷ []) = then_well _ _ (λ m. tt)
said_well HNode (w ∷ []) = one_well _ (λ n. tt) _
said_well HAdapter (a ∷ b ∷ c ∷ []) = then_well _ _ (λ n. then_well _ _ (λ network. then_well _ _ (λ address. tt)))
said_well HHb (a ∷ b ∷ []) = then_well _ _ (λ f. then_well _ _ (λ s. tt))
said_well HPort (w ∷ []) = one_well _ (λ n. tt) _
said_well HLevel (a ∷ b ∷ []) = then_well _ _ (λ n. then_well _ _ (λ j. tt))
said_well HDomain (w ∷ []) = one_well _ (λ n. tt) _
said_well HBegin [] = tt
said_well HStart (w ∷ []) = event_well event.Start (λ n. inl refl) w
said_well HStop (w ∷ []) = event_well event.Stop (λ n. tt) w
said_well HTick (w ∷ []) = event_well event.Tick (λ n. tt) w
said_well HAsk (w ∷ ws) = then_well _ _ (λ n. then_well _ _ (λ ms. tt))
said_well HRun (w ∷ []) = one_well _ (λ n. tt) _
said_well HDeliver (a ∷ b ∷ c ∷ []) = then_well _ _ (λ k. two_well (λ n m. line.Plain (event.Deliver n m k)) (λ n m. tt) a b)
said_well HDrop (a ∷ b ∷ []) = two_well line.Drop (λ n m. tt) a b
said_well HFlow [] = tt
said_well HCut (a ∷ b ∷ []) = two_well (λ n m. line.Cut n m None) (λ n m. tt) a b
said_well HCut (a ∷ b ∷ c ∷ []) = then_well _ _ (λ network. two_well (λ n m. line.Cut n m (Some network)) (λ n m. tt) a b)
said_well HHeal (a ∷ b ∷ []) = two_well (λ n m. line.Heal n m None) (λ n m. tt) a b
said_well HHeal (a ∷ b ∷ c ∷ []) = then_well _ _ (λ network. two_well (λ n m. line.Heal n m (Some network)) (λ n m. tt) a b)
said_well HGarbage (a ∷ b ∷ []) = then_well _ _ (λ bytes. event_well (λ n. event.Garbage n bytes) (λ n. tt) a)
said_well HShow (a ∷ b ∷ []) = then_well _ _ (λ what. event_well (λ n. event.Show n what) (λ n. tt) a)
said_well HClient (a ∷ b ∷ c ∷ []) = then_well _ _ (λ n. then_well _ _ (λ name. then_well _ _ (λ votes. tt)))
said_well HJoin (c ∷ g ∷ i ∷ ws) = then_well _ _ (λ instance. then_well _ _ (λ attrs. call_well _ c g))
said_well HLeave (c ∷ g ∷ ph ∷ []) = then_well _ _ (λ phases. call_well _ c g)
said_well HExpel (c ∷ g ∷ ph ∷ ws) = then_well _ _ (λ phases. then_well _ _ (λ out. call_well _ c g))
said_well HState (c ∷ g ∷ ph ∷ t ∷ []) = then_well _ _ (λ phases. then_well _ _ (λ value. call_well _ c g))
said_well HMessage (c ∷ g ∷ ph ∷ t ∷ []) = then_well _ _ (λ phases. then_well _ _ (λ bytes. call_well _ c g))
said_well HAttrs (c ∷ g ∷ ph ∷ ws) = then_well _ _ (λ phases. then_well _ _ (λ attrs. call_well _ c g))
said_well HVote (c ∷ g ∷ v ∷ []) = then_well _ _ (λ item. call_well _ c g)
said_well HSubscribe (c ∷ g ∷ []) = call_well _ c g
said_well HUnsubscribe (c ∷ g ∷ []) = call_well _ c g
said_well HGoodbye (c ∷ []) = then_well _ _ (λ client. tt)
said_well _ _ = tt
