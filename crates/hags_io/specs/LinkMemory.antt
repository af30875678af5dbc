-- What contracts see of a link and of a clock in memory, and what one call of them does.
use Rattle.std.specs.Prelude.{◌≡◌, ℕ, ◌≤◌, ◌<◌, ◌+◌, ◌-◌, ◌^◌, min, nat_lt, Bool, true, false, not, List, [], ◌∷◌, ◌++◌, length, take, replicate, slice_index, Option, Some, None, if◌then◌else◌}
use Rattle.hags_io.specs.declared.source.Put.{Put}
use Rattle.hags_io.specs.declared.source.Put.TheVariants as put
use Rattle.hags_io.specs.declared.link.Got.{Got}
use Rattle.hags_io.specs.declared.link.Got.TheVariants as got
use Rattle.hags_io.specs.declared.link.LinkCall.{LinkCall}
use Rattle.hags_io.specs.declared.link.LinkCall.TheVariants as call
use Rattle.hags_io.specs.declared.link.Places.{Places}
use Rattle.hags_io.specs.Memory.{names_call}
use Rattle.hags_io.specs.Places.{with_place}

-- what is to come, with its network; the calls that fail, by kind; how many calls of each kind there were; what is told; and how many failed
pub record LinkView : Type 0 where
  pub inbox : List (ℕ × List ℕ)
  pub fail_opens : List ℕ
  pub fail_recvs : List ℕ
  pub fail_sends : List ℕ
  pub opens : ℕ
  pub recvs : ℕ
  pub sends : ℕ
  pub calls : List LinkCall
  pub places : Places
  pub opened : Option (ℕ × Bool)
  pub faults : ℕ

-- each datagram is within what a buffer holds
abbrev pub AreWithin : List (ℕ × List ℕ) → Type 0
AreWithin [] = Unit {0}
AreWithin (x ∷ xs) = (length x.1 ≤ 65535) × AreWithin xs

-- one more, up to the last value
abbrev pub counted : ℕ → ℕ
counted n = min (n + 1) (2 ^ 64 - 1)

-- is the next call of this kind one that fails?
abbrev pub open_fails : LinkView → Bool
open_fails l = names_call l.fail_opens l.opens

abbrev pub recv_fails : LinkView → Bool
recv_fails l = names_call l.fail_recvs l.recvs

abbrev pub send_fails : LinkView → Bool
send_fails l = names_call l.fail_sends l.sends

abbrev pub opened_at : ℕ → LinkView → LinkView
opened_at port l = record l {
  opens = counted l.opens;
  opened = Some (port, not (open_fails l));
  faults = if open_fails l then counted l.faults else l.faults;
}

abbrev pub placed : ℕ → ℕ → ℕ → ℕ → LinkView → LinkView
placed node network address port l = record l { places = with_place node network address port l.places }

-- a receive, a send, as it is told
abbrev pub received : LinkCall → LinkView → LinkView
received told l = record l { recvs = counted l.recvs; calls = l.calls ++ told ∷ [] }

abbrev pub sent : LinkCall → LinkView → LinkView
sent told l = record l { sends = counted l.sends; calls = l.calls ++ told ∷ [] }

-- the first datagram of the inbox; nothing, exactly where the inbox is empty; a fault, exactly where the call is named; want of memory takes nothing
abbrev pub ReceivesFrom : LinkView → LinkView → Got → List ℕ → Type 0
ReceivesFrom old new (got.Datagram n network) buf =
    (recv_fails old ≡ false) × (old.inbox ≡ (network, take n buf) ∷ new.inbox)
    × (new ≡ record (received (call.Received network (take n buf)) old) { inbox = new.inbox })
ReceivesFrom old new got.Quiet buf = (recv_fails old ≡ false) × (old.inbox ≡ []) × (new ≡ received call.Quiet old)
ReceivesFrom old new got.Failed buf =
    (recv_fails old ≡ true) × (new ≡ record (received call.Failed old) { faults = counted old.faults })
ReceivesFrom old new got.NoMemory buf = new ≡ record old { recvs = counted old.recvs }

-- what was handed goes out, or the call is named; want of memory takes nothing
abbrev pub SendsTo : LinkView → LinkView → Put → ℕ → ℕ → List ℕ → Type 0
SendsTo old new put.Done node network b =
    (send_fails old ≡ false) × (new ≡ sent (call.Sent node network b true) old)
SendsTo old new put.Failed node network b =
    (send_fails old ≡ true) × (new ≡ record (sent (call.Sent node network b false) old) { faults = counted old.faults })
SendsTo old new put.NoMemory node network b = new ≡ record old { sends = counted old.sends }

-- a clock's moments, how many of them were given, and how often the last one was given again
pub record ClockView : Type 0 where
  pub moments : List ℕ
  pub given : ℕ
  pub repeats : ℕ

-- each is at least the one before it
abbrev pub Ascend : List ℕ → Type 0
Ascend moments = (k : ℕ) → k + 1 < length moments → slice_index moments k ≤ slice_index moments (k + 1)

-- the moment that was given last, 0 before the first
abbrev pub last_given : ClockView → ℕ
last_given c = if nat_lt 0 c.given then slice_index c.moments (c.given - 1) else 0

-- all that were given; no longer told once the last one was given again 18,446,744,073,709,551,615 times
abbrev pub told_moments : ClockView → Option (List ℕ)
told_moments c =
    if nat_lt c.repeats (2 ^ 64 - 1) then Some (take c.given c.moments ++ replicate c.repeats (slice_index c.moments (length c.moments - 1)))
    else None

-- the next moment, or the last one again
abbrev pub clock_after : ClockView → ClockView
clock_after c =
    if nat_lt c.given (length c.moments) then record c { given = c.given + 1 }
    else record c { repeats = counted c.repeats }
