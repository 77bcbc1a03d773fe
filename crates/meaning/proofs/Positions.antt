-- The position of an outcome (RULES 15.27, 15.28): a message says with number 6 where its operations break, with every other number 0, and so does
-- every other call. What else an outcome has does not depend on it.
use Prim.Native.Nat.{ℕ, ◌+◌, ◌≤◌}
use native.Mathlib.Omega.{arith}
use mathlib.Core.Path.{◌≡◌, refl, sym, ◌∙◌}
use mathlib.Core.Logic.{◌≢◌}
use mathlib.Core.Bool.{Bool, true, false, true≢false}
use mathlib.Core.Option.{Option, none, some}
use mathlib.Core.List.{List, [], ◌∷◌, ◌++◌, map}
use lib.ListN.{length}
use lib.Dec.{eqb}
use borrow.Author.Tests.{leb-true, eqb-true, eq-eqb, ne_eqb}
use Rattle.meaning.specs.Octets.{implies, zeros}
use Rattle.meaning.specs.Checks.{Checks, passed, check, first_failed}
use Rattle.meaning.specs.Memory.{fresh}
use Rattle.meaning.specs.Profile.{release18}
use Rattle.meaning.specs.Operation.{Op, parse, is_some, break_of}
use Rattle.meaning.specs.Calls.{Outcome, done, number_only, call, is_command, length_field, operations, handled, message_checks, located, message, local_checks, local_value, build_checks, build, expired, expiry_checks, expiry, make_fresh}
use Rattle.meaning.proofs.All.{all}
use Rattle.meaning.proofs.Lists.{Octets, octets-part, part-most}
use Rattle.meaning.proofs.Checked.{call_either}
use Rattle.meaning.proofs.Kept.{expired_either}
use Rattle.meaning.proofs.Breaks.{Breaks, break_inside, breaks_there, breaks_is, breaks_none}
use Rattle.meaning.proofs.Numbers.{Measured, message_6}
use Rattle.meaning.proofs.Wording.{with_length, two_octets, reading, setting, subscribing, unsubscribing, like_set}

-- ---- number 6

-- of the checks of a message the third has passed then, and the sixth has failed
sixth : (a b c d e f g h : Bool)
    → first_failed (check 1 a (check 2 b (check 3 c (check 4 d (check 5 e (check 6 f (check 8 g (check 7 h passed)))))))) ≡ 6 → (c ≡ true) × (f ≡ false)
unfolding first_failed
sixth false b c d e f g h x = absurd (omega arith)
sixth true false c d e f g h x = absurd (omega arith)
sixth true true false d e f g h x = absurd (omega arith)
sixth true true true false e f g h x = absurd (omega arith)
sixth true true true true false f g h x = absurd (omega arith)
sixth true true true true true false g h x = (refl, refl)
sixth true true true true true true false h x = absurd (omega arith)
sixth true true true true true true true false x = absurd (omega arith)
sixth true true true true true true true true x = absurd (omega arith)

not_parsed : (a : Bool) (p : Option (List Op)) → implies a (is_some p) ≡ false → p ≡ none
unfolding implies
not_parsed true none e = refl
not_parsed true (some os) e = absurd (true≢false e)
not_parsed false p e = absurd (true≢false e)

call-number : (cs : Checks) (w m' m room : List ℕ) → (call cs (done w m' room) m room).number ≡ first_failed cs
call-number cs w m' m room = call_either (λ o. o.number ≡ first_failed cs) cs (done w m' room) m room (λ e. sym e) (λ n e. sym e)

module _ (p : ℕ) (m s room : List ℕ) where
  broken_6 : (message p m s room).number ≡ 6 → (length s ≤ 2048) × (parse p (operations s) ≡ none)
  unfolding message message_checks
  broken_6 e =
      let x = sixth _ _ _ _ _ _ _ _ (sym (call-number (message_checks p m s (length room)) (handled p m s).reply (handled p m s).memory m room) ∙ e) in
      (leb-true (length s) 2048 x.0, not_parsed (is_command s) (parse p (operations s)) x.1)

  short : length s ≤ 2048 → break_of p (operations s) ≤ 2051
  unfolding break_of operations
  short h = omega (arith, (part-most s 3 (length_field s)).1)

  position_6 : (message p m s room).number ≡ 6 → (message p m s room).position ≡ break_of p (operations s)
  unfolding message
  position_6 e = rw e

  -- the operations break at the position that is told
  pub message_breaks : Octets s → (message p m s room).number ≡ 6 → Breaks p (operations s) (message p m s room).position
  unfolding operations
  message_breaks o e = rw (position_6 e) (breaks_there p (operations s) (octets-part s 3 (length_field s) o) (broken_6 e).1)

  -- which lies among the L octets
  pub message-inside : Octets s → (message p m s room).number ≡ 6 → (3 ≤ (message p m s room).position) × ((message p m s room).position ≤ 2 + length_field s)
  unfolding operations
  message-inside o e =
      let b = break_inside p (operations s) _ (message_breaks o e) in
      (b.0, omega (arith, b.1, (part-most s 3 (length_field s)).0))

  -- a command whose operations break somewhere is refused with 6, and that position
  pub breaks_message : (q : ℕ) → Measured p m s → Breaks p (operations s) q → message p m s room ≡ located q (number_only 6 m room)
  breaks_message q l b = rw (breaks_is p (operations s) q b) (message_6 p m s room l (breaks_none p (operations s) q b))

  -- ---- every other number

  pub message_nowhere : (message p m s room).number ≢ 6 → (message p m s room).position ≡ 0
  unfolding message
  message_nowhere n = rw (ne_eqb _ 6 n)

  -- so no position has more than four digits
  pub position-most : (message p m s room).position ≤ 2051
  position-most = at (eqb (message p m s room).number 6) refl
    where
      at : (b : Bool) → eqb (message p m s room).number 6 ≡ b → (message p m s room).position ≤ 2051
      at true e = let six = eqb-true _ 6 e in rw (position_6 six) (short (broken_6 six).0)
      at false e = omega (arith, message_nowhere (λ six. true≢false (sym (eq-eqb _ 6 six) ∙ e)))

-- ---- every other call

nowhere : (cs : Checks) (o : Outcome) (m room : List ℕ) → o.position ≡ 0 → (call cs o m room).position ≡ 0
nowhere cs o m room e = call_either (λ r. r.position ≡ 0) cs o m room (λ _. e) (λ n f. refl)

pub local_value_nowhere : (p : ℕ) (m : List ℕ) (n : ℕ) (v : List ℕ) → (local_value p m n v).position ≡ 0
unfolding local_value
local_value_nowhere p m n v = nowhere (local_checks p m n v) _ m [] refl

pub build_nowhere : (p : ℕ) (m room : List ℕ) → (build p m room).position ≡ 0
unfolding build
build_nowhere p m room = nowhere (build_checks p m (length room)) _ m room refl

pub expiry_nowhere : (p : ℕ) (m : List ℕ) → (expiry p m).position ≡ 0
unfolding expiry
expiry_nowhere p m = nowhere (expiry_checks p m) (expired m) m [] (expired_either (λ o. o.position ≡ 0) m (λ _. refl) refl)

pub make_fresh_nowhere : (m : List ℕ) → (make_fresh m).position ≡ 0
unfolding make_fresh
make_fresh_nowhere m = nowhere _ _ m [] refl

-- ---- what else an outcome has is that of the call, which knows of no position

pub record SameBut (o p : Outcome) : Type 0 where
  pub number : o.number ≡ p.number
  pub written : o.written ≡ p.written
  pub memory : o.memory ≡ p.memory
  pub room : o.room ≡ p.room

pub message_but_position : (p : ℕ) (m s room : List ℕ)
    → SameBut (message p m s room) (call (message_checks p m s (length room)) (done (handled p m s).reply (handled p m s).memory room) m room)
unfolding message
message_but_position p m s room = record { number = refl; written = refl; memory = refl; room = refl }

-- ---- messages of literal octets, what each returns, and where it breaks

pub record Told : Type 0 where
  pub number : ℕ
  pub position : ℕ

pub record Example : Type 0 where
  pub memory : List ℕ
  pub sent : List ℕ
  pub room : List ℕ
  pub wanted : Told

abbrev pub example : List ℕ → List ℕ → List ℕ → ℕ → ℕ → Example
example m s room n p = record { memory = m; sent = s; room = room; wanted = record { number = n; position = p } }

abbrev pub told : (p : ℕ) → Example → Told
told p e =
    let o = message p e.memory e.sent e.room in
    record { number = o.number; position = o.position }

-- a command of these operations to fresh memory, with a room for every reply
unfoldable pub breaking : List ℕ → ℕ → ℕ → Example
unfolding with_length two_octets
breaking t n p = example fresh (1 ∷ with_length t) (zeros 4096) n p

unfoldable pub examples : List Example
unfolding breaking with_length two_octets reading setting subscribing unsubscribing like_set
examples =
    -- at the first, a middle and the last operation: by its code, by a name or half of it missing, by a length or a value that passes the end
    breaking (0 ∷ []) 6 3
    ∷ breaking (0x0A ∷ 0 ∷ 3 ∷ []) 6 3
    ∷ breaking (2 ∷ []) 6 3
    ∷ breaking (3 ∷ 0 ∷ 3 ∷ 0 ∷ []) 6 3
    ∷ breaking (1 ∷ 0xFF ∷ 1 ∷ []) 6 4
    ∷ breaking (reading 0x0003 ++ (4 ∷ 0 ∷ [])) 6 6
    ∷ breaking (subscribing 0x00A4 ++ (5 ∷ [])) 6 6
    ∷ breaking (1 ∷ unsubscribing 0x00A4 ++ (3 ∷ 0 ∷ 3 ∷ 0 ∷ 2 ∷ 1 ∷ [])) 6 7
    ∷ breaking (setting 0x0042 (zeros 255) ++ (setting 0x0003 (1 ∷ []) ++ (2 ∷ 0 ∷ []))) 6 269
    -- the same of what is laid out as a set and not served; 0A is nothing, however it is laid out
    ∷ breaking (6 ∷ []) 6 3
    ∷ breaking (like_set 9 0x0003 (1 ∷ []) ++ (7 ∷ 0 ∷ [])) 6 9
    ∷ breaking (like_set 6 0x0003 [] ++ (8 ∷ 0 ∷ 3 ∷ 0 ∷ [])) 6 8
    ∷ breaking (like_set 7 0x0003 (zeros 300) ++ (9 ∷ 0 ∷ 3 ∷ 0 ∷ 2 ∷ 1 ∷ [])) 6 308
    ∷ breaking (like_set 8 0x0003 [] ++ like_set 0x0A 0x0003 []) 6 8
    -- two of them: the first is told
    ∷ breaking (reading 0x0003 ++ (0 ∷ reading 0x0003 ++ (0 ∷ []))) 6 6
    -- octets behind the L octets complete nothing
    ∷ example fresh (1 ∷ 0 ∷ 4 ∷ 1 ∷ 3 ∷ 0 ∷ 3 ∷ 0 ∷ 1 ∷ 1 ∷ []) (zeros 4096) 6 4
    -- every other number
    ∷ breaking (reading 0x0003) 0 0
    ∷ breaking (like_set 6 0x0003 [] ++ (like_set 7 0x0003 (1 ∷ []) ++ (like_set 8 0x0003 [] ++ like_set 9 0x0003 (1 ∷ [])))) 0 0
    ∷ example [] (1 ∷ 0 ∷ 1 ∷ 0 ∷ []) (zeros 4096) 1 0
    ∷ example fresh [] (zeros 4096) 2 0
    ∷ example fresh (1 ∷ with_length (zeros 2046)) (zeros 4096) 3 0
    ∷ example fresh (2 ∷ 0 ∷ 1 ∷ 0 ∷ []) (zeros 4096) 4 0
    ∷ example fresh (1 ∷ 0 ∷ 2 ∷ 0 ∷ []) (zeros 4096) 5 0
    ∷ example fresh (1 ∷ with_length (reading 0x0003)) [] 7 0
    ∷ example fresh (4 ∷ 0 ∷ 1 ∷ 0 ∷ []) (zeros 4096) 8 0
    ∷ []

pub positions : map (λ (e : Example). told release18 e) examples ≡ map (λ (e : Example). e.wanted) examples
unfolding all examples breaking with_length two_octets reading setting subscribing unsubscribing like_set
positions = refl
