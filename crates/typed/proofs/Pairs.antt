-- Pairs of digits taken at once are two octets taken; a line of whole octets as its fields tell it.
use Prim.Native.Nat.{ℕ, ◌+◌, ◌*◌, ◌≤◌}
use native.Mathlib.Omega.{arith}
use mathlib.Core.Path.{◌≡◌, refl, sym, subst}
use mathlib.Core.Bool.{false}
use mathlib.Core.List.{List, [], ◌∷◌}
use lib.ListN.{length, get_or}
use Rattle.typed.specs.declared.Sign.TheVariants.{Hex}
use Rattle.typed.specs.declared.Form.TheVariants.{Octets, Half}
use Rattle.typed.specs.declared.Line.{Line}
use Rattle.typed.specs.Signs.{sign_of}
use Rattle.typed.specs.Forms.{by_sign, form_after, completed_by, completed, Stores, Takes}
use Rattle.typed.specs.Scanning.{whole_octets, Goes}
use Rattle.typed.proofs.Signs.{no_hash, no_feed}
use Rattle.typed.proofs.Forms.{goes_on, goes_on_bare}
use Rattle.typed.proofs.Scanning.{goes_one}

pub whole-line : (l : Line) → l.form ≡ Octets → l.comment ≡ false → whole_octets l.count ≡ l
whole-line l e f = rw (sym e, sym f)

module _ {room₀ : List ℕ} {l₀ : Line} {held : List ℕ} {from : ℕ} {room : List ℕ} (n at : ℕ) (s : Goes room₀ l₀ held from room (whole_octets n) at) where
  pub goes_pair : (h d : ℕ) {n' : ℕ} {room' : List ℕ} → at + 2 ≤ length held → sign_of (get_or held at 0) ≡ Hex h → sign_of (get_or held (at + 1) 0) ≡ Hex d
      → length room' ≡ 4097 → Stores room n ((h * 16 + d) ∷ []) n' room' → Goes room₀ l₀ held from room' (whole_octets n') (at + 2)
  unfolding form_after by_sign completed completed_by
  goes_pair h d {n'} {room'} k e f long w =
      let a = get_or held at 0 in
      let b = get_or held (at + 1) 0 in
      let half : Line = record { form = Half h; comment = false; count = n } in
      let t : Takes room (whole_octets n) a half room = goes_on_bare room (whole_octets n) a s.keeps (Hex h) (Half h) refl (no_hash a (Hex h) e tt) (sym e) refl refl in
      let u : Goes room₀ l₀ held from room half (at + 1) = goes_one s (omega arith) (no_feed a (Hex h) e tt) t in
      let v : Takes room half b (whole_octets n') room' = goes_on room half b u.keeps (Hex d) Octets n' room' refl (no_hash b (Hex d) f tt) (sym f) refl long w in
      let i : at + 1 + 1 ≡ at + 2 = omega arith in
      subst (λ (j : ℕ). Goes room₀ l₀ held from room' (whole_octets n') j) i (goes_one u (omega arith) (no_feed b (Hex d) f tt) v)
