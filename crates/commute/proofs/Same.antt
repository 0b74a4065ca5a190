-- What a section holds has one spelling: two accepted texts hold the same in a section just where its bytes are the same.
use mathlib.Core.Path.{◌≡◌, sym, ap, ◌∙◌}
use mathlib.Core.Logic.{◌↔◌}
use mathlib.Core.Bool.{true}
use mathlib.Core.List.{List, [], ◌∷◌}
use Prim.Native.Nat.{ℕ, ◌≤◌}
use native.Mathlib.Omega.{arith}
use Rattle.text.specs.Equal.{same_bytes}
use Rattle.text.proofs.Equal.{same-equal, equal-same}
use Rattle.section.specs.Layout.{layout_of}
use Rattle.section.specs.Contents.{contents_text}
use Rattle.section.proofs.RoundTrip.{own-written}
use Rattle.command.specs.Text.{is_named}
use Rattle.command.specs.Sections.{bytes_of, held_in}
use Rattle.command.proofs.Parts.{present, body_of, Place, Absent, Present, holds}
use Rattle.command.proofs.Accepted.{Accepted, sound, named-present, held-own}
use Rattle.command.proofs.Standing.{bytes-body}
use Rattle.commute.proofs.Numbered.{numbered, of_number}

spelt_once : (k : ℕ) (b : List ℕ) → Place k b → present b ≡ true → contents_text (layout_of k) (holds k b) ≡ b
spelt_once k [] p h = let z : ◌≡◌ {A = ℕ} 0 1 = cc in absurd (omega arith)
spelt_once k (c ∷ b) (Absent e) h = let z : ◌≡◌ {A = ℕ} 0 1 = cc in absurd (omega arith)
spelt_once k (c ∷ b) (Present some own) h = own-written (layout_of k) (c ∷ b) own

module _ (s : List ℕ) (x : Accepted s) (k : ℕ) (lo : 2 ≤ k) (hi : k ≤ 9) where
  -- a named section has bytes
  pub named_some : is_named s k ≡ true → present (body_of s k) ≡ true
  named_some m = sym (of_number (λ j. is_named s j ≡ present (body_of s j)) (named-present s x) k lo hi) ∙ m

  pub some-named : present (body_of s k) ≡ true → is_named s k ≡ true
  some-named h = of_number (λ j. is_named s j ≡ present (body_of s j)) (named-present s x) k lo hi ∙ h

  -- which are what its contents write
  written : is_named s k ≡ true → contents_text (layout_of k) (holds k (body_of s k)) ≡ body_of s k
  written m = spelt_once k (body_of s k) (of_number (λ j. Place j (body_of s j)) (sound s x).sections k lo hi) (named_some m)

module _ (a b : List ℕ) (x : Accepted a) (y : Accepted b) (k : ℕ) (lo : 2 ≤ k) (hi : k ≤ 9) where
  -- the same contents are the same bytes
  pub held_bytes : is_named a k ≡ true → is_named b k ≡ true → held_in a k ≡ held_in b k → body_of a k ≡ body_of b k
  held_bytes m n e =
      let i = numbered k lo hi in
      sym (written a x k lo hi m)
      ∙ ap (contents_text (layout_of k)) (sym (held-own a x k i) ∙ e ∙ held-own b y k i)
      ∙ written b y k lo hi n

  -- and the other way round
  pub bytes-held : body_of a k ≡ body_of b k → held_in a k ≡ held_in b k
  bytes-held e = let i = numbered k lo hi in held-own a x k i ∙ ap (holds k) e ∙ sym (held-own b y k i)

  -- so the test of the bytes tells whether the contents are the same
  pub same_contents_lem : is_named a k ≡ true → is_named b k ≡ true → (same_bytes (bytes_of a k) (bytes_of b k) ≡ true) ↔ (held_in a k ≡ held_in b k)
  same_contents_lem m n =
      let i = numbered k lo hi in (
        λ e. bytes-held (sym (bytes-body a k i) ∙ same-equal (bytes_of a k) (bytes_of b k) e ∙ bytes-body b k i),
        λ e. equal-same (bytes_of a k) (bytes_of b k) (bytes-body a k i ∙ held_bytes m n e ∙ sym (bytes-body b k i)),
      )
