-- What the lines of a group say of puts, views and bases, the run's own records say.
use Rattle.std.proofs.Common.{◌≡◌, ℕ, List, [], ◌∷◌, ◌++◌, Option, Some, None, Bool, true, false, refl, sym, ap, ◌∙◌, inl, append_assoc}
use Rattle.std.specs.Prelude.{◌&&◌, ◌==◌, if◌then◌else◌}
use Rattle.std.specs.Str.{bytes_eq}
use Rattle.std.proofs.lemmas.List.{append-nil}
use Rattle.rsct_packet.specs.declared.ids.ViewId.{ViewId}
use Rattle.rsct_packet.specs.declared.ids.Member.{Member}
use Rattle.rsct_packet.specs.Ids.{same_view}
use Rattle.rsct_packet.specs.Search.{Has}
use Rattle.proposal_core.specs.declared.entry.Entry.{Entry}
use Rattle.node_state.specs.declared.happened.Happened.{Happened}
use Rattle.node_state.specs.declared.happened.Happened.TheVariants as happened
use Rattle.run_safety.specs.ViewOrder.{is_same}
use Rattle.run_safety.specs.Past.{History, earlier, records_of, view_now, puts_after, puts_of}
use Rattle.run_safety.specs.Group.{Origin, In, Put, Line, Kept, Noted, Based, kept}
use Rattle.run_safety.specs.Group as group
use Rattle.run_safety.specs.GroupLists as lists
use Rattle.run_safety.specs.Sight.{inc_in, told_in, lines_at, lines_with, lines_of}
use Rattle.run_safety.proofs.SightLaws.{line_kept, kept_line, own_line, line_seen, line_recorded}

-- ---- puts

module _ (n : ℕ) (v : ViewId) (g : List ℕ) where
  abbrev line_puts : List Line → List Entry
  line_puts all = lists.puts_of n v (kept all)

  one_puts : (rs : List Happened) (r : Happened) (all : List Line) (old : List Entry) → line_puts all ≡ old → line_puts (lines_at g rs r ++ all) ≡ puts_after n v g r old
  unfolding is_same
  one_puts rs (happened.Base m u h w len s) all old q = by (bytes_eq h g)
    where
      by : (b : Bool) → line_puts ((if b then Noted (Based m u (record { old = w; len = len; state = s })) ∷ [] else []) ++ all) ≡ old
      by true = q
      by false = q
  one_puts rs (happened.Put m u h i e) all old q = by (bytes_eq h g)
    where
      here : (c d : Bool) → (if c && d then line_puts all ++ e ∷ [] else line_puts all) ≡ (if c && (d && true) then old ++ e ∷ [] else old)
      here true true = ap (λ es. es ++ e ∷ []) q
      here true false = q
      here false d = q

      away : (c d : Bool) → line_puts all ≡ (if c && (d && false) then old ++ e ∷ [] else old)
      away true true = q
      away true false = q
      away false d = q

      by : (b : Bool) → line_puts ((if b then Kept (Put m u i e) ∷ [] else []) ++ all) ≡ (if m == n && (same_view u v && b) then old ++ e ∷ [] else old)
      by true = here (m == n) (same_view u v)
      by false = away (m == n) (same_view u v)
  one_puts rs (happened.Heard p u h i e ms value) all old q = by (bytes_eq h g)
    where
      by : (b : Bool) → line_puts ((if b then Noted (group.Heard p u i e ms value) ∷ [] else []) ++ all) ≡ old
      by true = q
      by false = q
  one_puts rs (happened.Asked p r h x) all old q = by (bytes_eq h g)
    where
      by : (b : Bool) → line_puts ((if b then Noted (group.Asked p r x) ∷ [] else []) ++ all) ≡ old
      by true = q
      by false = q
  one_puts rs (happened.Told p r why) all old q = by (view_now p.node rs)
    where
      by : (o : Option ViewId) → line_puts (told_in p r o ++ all) ≡ old
      by None = q
      by (Some u) = q
  one_puts rs _ all old q = q

  with_puts : (now : List Happened) (before : History) (all : List Line) → line_puts all ≡ puts_of n v g (records_of before) → line_puts (lines_with g now before all) ≡ puts_of n v g (earlier now before)
  with_puts [] before all q = q
  with_puts (r ∷ now) before all q =
      one_puts (earlier now before) r (lines_with g now before all) (puts_of n v g (earlier now before)) (with_puts now before all q)

  pub puts_seen : (h : History) → lists.puts_of n v (kept (lines_of g h)) ≡ puts_of n v g (records_of h)
  puts_seen [] = refl
  puts_seen (x ∷ before) = with_puts x.records before (lines_of g before) (puts_seen before)

  -- what was put first stays first
  pub puts_first : (rs older : List Happened) → (more : List Entry) × (puts_of n v g (rs ++ older) ≡ puts_of n v g older ++ more)
  puts_first [] older = ([], sym (append-nil (puts_of n v g older)))
  puts_first (r ∷ rs) older = let k = puts_first rs older in by r k.0 k.1
    where
      by : (r : Happened) (more : List Entry) → puts_of n v g (rs ++ older) ≡ puts_of n v g older ++ more → (more : List Entry) × (puts_after n v g r (puts_of n v g (rs ++ older)) ≡ puts_of n v g older ++ more)
      by (happened.Put m u h i e) more q = at (m == n && (same_view u v && bytes_eq h g))
        where
          at : (b : Bool) → (more : List Entry) × ((if b then puts_of n v g (rs ++ older) ++ e ∷ [] else puts_of n v g (rs ++ older)) ≡ puts_of n v g older ++ more)
          at true = (more ++ e ∷ [], ap (λ es. es ++ e ∷ []) q ∙ append_assoc (puts_of n v g older) more (e ∷ []))
          at false = (more, q)
      by _ more q = (more, q)

-- ---- views and bases

pub base_seen : (n : ℕ) (v : ViewId) (g : List ℕ) (b : Origin) (h : History) → Has (happened.Base n v g b.old b.len b.state) (records_of h) → Has (Noted (Based n v b)) (lines_of g h)
base_seen n v g b = line_seen (Noted (Based n v b)) g (happened.Base n v g b.old b.len b.state) (λ rs. own_line g (Noted (Based n v b)))

pub in_seen : (n : ℕ) (v : ViewId) (ms : List Member) (g : List ℕ) (h : History) → Has (happened.In n v ms) (records_of h) → Has (In n (inc_in n ms) v ms) (kept (lines_of g h))
in_seen n v ms g h there = line_kept (In n (inc_in n ms) v ms) (lines_of g h) (line_seen (Kept (In n (inc_in n ms) v ms)) g (happened.In n v ms) (λ rs. inl refl) h there)

pub base_read : (n : ℕ) (v : ViewId) (g : List ℕ) (b : Origin) (h : History) → Has (Noted (Based n v b)) (lines_of g h) → Has (happened.Base n v g b.old b.len b.state) (records_of h)
base_read n v g b = line_recorded g (Noted (Based n v b)) (happened.Base n v g b.old b.len b.state) refl

pub in_read : (n j : ℕ) (v : ViewId) (ms : List Member) (g : List ℕ) (h : History) → Has (In n j v ms) (kept (lines_of g h)) → Has (happened.In n v ms) (records_of h)
in_read n j v ms g h there = line_recorded g (Kept (In n j v ms)) (happened.In n v ms) refl h (kept_line (In n j v ms) (lines_of g h) there)
