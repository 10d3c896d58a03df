-- Document 01, 'What the bench has seen go wrong': none of the four can occur, in a text or in an image, at any turn.
use Rattle.std.specs.Prelude.{◌≡◌, refl, false, List, [], ◌∷◌, map, ℕ, zero, suc, get_or, set}
use Rattle.std.proofs.Common.{ap, subst, ◌∙◌}
use Rattle.agreement.specs.Kinds.{Task, Chan, Able, Event, Appended, Handed, Taken, Refilled, Received, Drained, Closed, Waits, Branched, Finished, Faulted}
use Rattle.meaning.specs.declared.Event.TheVariants.{Refused}
use Rattle.meaning.specs.Machine.{Look, Standing, Channel, Machine, Turned, channel_at, shut, moved, store, turn}
use Rattle.meaning.specs.Text.{Body, repeat, Remainder, todo, text_look, text_item, text_stmt, text_repeat}
use Rattle.meaning_laws.specs.Laws.Outcome.{Move, faults, hands, appends, refills, takes, receives, drains, wakes, shuts, waits, goes_on, finishes, Outcome, refuses, moves, outcome}
use Rattle.meaning_laws.specs.Fits.{Fits}
use Rattle.meaning_laws.specs.Laws.Calm.{all_channels}
use Rattle.meaning_laws.specs.Partners.{Apart}
use Rattle.meaning_laws.specs.Laws.Never as never

-- An element replaced by one that f does not tell from it.
same_to : {A B : Type 0} (f : A → B) (d : A) (g : A → A) → ((a : A) → f (g a) ≡ f a) → (l : List A) (n : ℕ) → map f (set l n (g (get_or l n d))) ≡ map f l
same_to f d g h [] n = refl
same_to f d g h (x ∷ xs) zero = ap (λ y. y ∷ map f xs) (h x)
same_to f d g h (x ∷ xs) (suc n) = ap (λ ys. f x ∷ ys) (same_to f d g h xs n)

abbrev buffers : List Channel → List (List ℕ)
buffers cs = map (λ c. c.buffer) cs

module _ {P : Type 0} (look : P → Look P) (t : Task) (choice : ℕ) (m : Machine P) where
  abbrev turned : Turned P
  turned = turn look t choice m

  -- What each event leaves: a close, every buffer; a receive on a closed and empty channel, the register 0 and the mark off.
  abbrev Leaves : Event → Machine P → Type 0
  Leaves (Closed c n) after = buffers after.channels ≡ buffers m.channels
  Leaves (Drained c) after = (x : Standing P) × (after.tasks ≡ set m.tasks t.0 x) × (x.register ≡ 0) × (x.ok ≡ false)
  Leaves (Appended c v) after = Unit {0}
  Leaves (Handed c v u) after = Unit {0}
  Leaves (Taken c v) after = Unit {0}
  Leaves (Refilled c v u) after = Unit {0}
  Leaves (Received c v u) after = Unit {0}
  Leaves Waits after = Unit {0}
  Leaves Branched after = Unit {0}
  Leaves Finished after = Unit {0}
  Leaves (Faulted p f u) after = Unit {0}
  Leaves (Refused n) after = Unit {0}

  shut_keeps : (c : Chan) → buffers (set m.channels c.0 (shut (channel_at m.channels c))) ≡ buffers m.channels
  shut_keeps c = same_to (λ (k : Channel). k.buffer) (record { capacity = 0; closed = false; buffer = [] }) shut (λ _. refl) m.channels c.0

  move_leaves : (x : Standing P) (r : Turned P) → Move look t choice m x r → Leaves r.event r.after
  move_leaves x r (faults n p h) = tt
  move_leaves x r (hands c v k w rs e g) = tt
  move_leaves x r (appends c v k e g h) = tt
  move_leaves x r (refills c k v vs s ss e g) = tt
  move_leaves x r (takes c k v vs e g) = tt
  move_leaves x r (receives c k s ss e g) = tt
  move_leaves x r (drains c k e g h) = (record { status = Able; register = 0; ok = false; point = k.miss }, refl, refl, refl)
  move_leaves x r (wakes c p w rs e g) = ap buffers (all_channels (w ∷ rs) (store c (shut (channel_at m.channels c)) (moved t x m p))) ∙ shut_keeps c
  move_leaves x r (shuts c p e g h) = shut_keeps c
  move_leaves x r (waits ks e g) = tt
  move_leaves x r (goes_on p) = tt
  move_leaves x r finishes = tt

  leaves : (r : Turned P) → Outcome look t choice m r → Leaves r.event r.after
  leaves r (refuses n) = tt
  leaves r (moves x s z h e v) = move_leaves x s v

  -- "Close that empties the buffer.": a close keeps every buffer.
  pub close_keeps_buffers : (c : Chan) (n : ℕ) → turned.event ≡ Closed c n → buffers turned.after.channels ≡ buffers m.channels
  close_keeps_buffers c n e = subst (λ v. Leaves v turned.after) e (leaves turned (outcome look t choice m))

  -- "A zero from a closed channel with ok on.": what a closed and empty channel gives is 0 with the mark off, in the mover's register.
  pub drained_is_marked : (c : Chan) → turned.event ≡ Drained c → (x : Standing P) × (turned.after.tasks ≡ set m.tasks t.0 x) × (x.register ≡ 0) × (x.ok ≡ false)
  drained_is_marked c e = subst (λ v. Leaves v turned.after) e (leaves turned (outcome look t choice m))

  -- "A select pairing with its own waiting case.": no event names its mover as partner.
  pub no_own_partner : Fits look m → Apart t turned.event
  no_own_partner f = never.never_own look t choice m f

-- "Lap counts kept from an earlier visit.": a repeat that is met anew begins with no laps.
pub repeat_anew : (n : ℕ) (b : Body) (r : Remainder) → text_look (todo (repeat n b) ∷ r) ≡ text_repeat 0 n b r
unfolding text_look text_item text_stmt
repeat_anew n b r = refl
