-- Memory in form B, lent on behind its first octet: a call gives what was given on the memory, with its profile ahead of what came back.
use Prim.Native.Nat.{ℕ}
use mathlib.Core.Path.{◌≡◌, refl, sym, ap, ◌∙◌}
use mathlib.Core.Bool.{true, false}
use mathlib.Core.List.{List, ◌∷◌}
use lib.ListN.{length}
use Rattle.std.specs.Prelude.{Err}
use Rattle.std.specs.List.{IsFirstAndRest}
use Rattle.std.specs.Array.{IsWholeChunk}
use Rattle.meaning.specs.Profile.{sound_in}
use Rattle.meaning.specs.FormB.{ahead, sound_form_b}
use Rattle.meaning.proofs.Sendings.{Call, gives}
use Rattle.meaning.proofs.Formed.{form_opened, sound-form, sound_opened, gives_lent, asks_form, room_of, unsound_1, sound_gives}
use Rattle.endpoint.specs.Outcomes.{Outcome, Gives}
use Rattle.endpoint.specs.declared.Refusal.TheVariants.{MemoryUnsound}
use Rattle.endpoint.proofs.Exits.{gives_number}

pub form-long : (b : List ℕ) → sound_form_b b ≡ true → length b ≡ 2101
form-long b e = (form_opened b (sound-form b e)).long

-- the first octet and the array behind it, as they are lent on
pub taken_apart : (b : List ℕ) (x : ℕ) (t m : List ℕ) → IsFirstAndRest b x t → IsWholeChunk t m 2100 → b ≡ x ∷ m
taken_apart b x t m f a = f.0 ∙ ap (λ (l : List ℕ). x ∷ l) (sym a.same)

module _ (x : ℕ) (m : List ℕ) (e : sound_form_b (x ∷ m) ≡ true) where
  pub behind-in : sound_in x m ≡ true
  behind-in = (sound_opened (x ∷ m) e).1

  -- what a call gave on the memory that was lent on
  pub gives_formed : (c : Call) {r : Outcome} {m' room' : List ℕ} → Gives (gives x m c) r m' room' → Gives (gives_lent (x ∷ m) c) r (x ∷ m') room'
  gives_formed c g =
      rw (sound_gives (x ∷ m) c e)
      record { number = g.number; written = g.written; position = g.position; memory_is = ap (ahead x) g.memory_is; room_is = g.room_is }

-- what is not sound in form B is refused with 1
pub gives_unsound : (b : List ℕ) (c : Call) → asks_form c ≡ true → sound_form_b b ≡ false → Gives (gives_lent b c) (Err MemoryUnsound) b (room_of c)
gives_unsound b c a e = gives_number b (room_of c) 1 MemoryUnsound (unsound_1 b c a e) refl refl
