-- The join by parts: the joined text is the text of the joined parts, and is accepted.
use mathlib.Core.Path.{◌≡◌, refl, ap, ap₂}
use mathlib.Core.Bool.{true}
use mathlib.Core.List.{List, [], ◌∷◌, ◌++◌}
use Prim.Native.Nat.{ℕ, ◌≤◌, max}
use native.Mathlib.Omega.{arith}
use Rattle.text.proofs.Cases.{by_le}
use Rattle.section.specs.Layout.{numbers}
use Rattle.command.specs.Text.{is_downlink, is_named}
use Rattle.command.proofs.Each.{Each, each_with}
use Rattle.command.proofs.Parts.{Parts, present, mark_of, marks, bodies, text_of, body_of, parts_of, Place, flag_tests, Sound}
use Rattle.command.proofs.Accepted.{Accepted, rising, sound, marked, named-present}
use Rattle.command.proofs.Written.{flags-back, downlink-back, bodies-back, text-accepted}
use Rattle.command.specs.Sections.{is_one_of}
use Rattle.command.proofs.Standing.{bytes-body}
use Rattle.join.specs.Join.{choose, join_section, join_sections, join_text}
use Rattle.join.proofs.Places.{choose-passes, later, later-named, later-place, marks-later}

-- ---- Parts that spell the same

pub record Alike (p q : Parts) : Type 0 where
  pub flags : p.flags ≡ q.flags
  pub downlink : p.downlink ≡ q.downlink
  pub sections : Each (λ k. p.sections k ≡ q.sections k) numbers

marks-alike : (f g : ℕ → List ℕ) (ks : List ℕ) → Each (λ k. f k ≡ g k) ks → marks f ks ≡ marks g ks
unfolding marks
marks-alike f g [] e = refl
marks-alike f g (k ∷ ks) e = ap₂ ◌∷◌ (ap (mark_of k) e.0) (marks-alike f g ks e.1)

bodies-alike : (f g : ℕ → List ℕ) (ks : List ℕ) → Each (λ k. f k ≡ g k) ks → bodies f ks ≡ bodies g ks
unfolding bodies
bodies-alike f g [] e = refl
bodies-alike f g (k ∷ ks) e = ap₂ ◌++◌ e.0 (bodies-alike f g ks e.1)

-- they have one text
pub text-alike : (p q : Parts) → Alike p q → text_of p ≡ text_of q
unfolding text_of
text-alike p q e =
    rw (
      e.flags,
      e.downlink,
      marks-alike p.sections q.sections numbers e.sections,
      bodies-alike p.sections q.sections numbers e.sections,
    )

-- ---- Joined parts

-- the second's where it sets one, else the first's; the larger downlink
abbrev pub join_parts : Parts → Parts → Parts
join_parts p q =
    record {
      flags = choose 57 p.flags q.flags;
      downlink = max p.downlink q.downlink;
      sections = λ k. later (p.sections k) (q.sections k);
    }

larger : (m n : ℕ) → is_downlink m ≡ true → is_downlink n ≡ true → is_downlink (max m n) ≡ true
larger m n e f =
    by_le m n
    (λ (h : m ≤ n). let d : max m n ≡ n = omega arith in rw d f)
    (λ h. let d : max m n ≡ m = omega arith in rw d e)

-- sound parts join into sound parts
pub join-sound : (p q : Parts) → Sound p → Sound q → Sound (join_parts p q)
join-sound p q a b =
    record {
      flags = choose-passes 57 flag_tests p.flags q.flags a.flags b.flags;
      downlink = larger p.downlink q.downlink a.downlink b.downlink;
      sections =
          each_with (λ k. Place k (p.sections k)) (λ k. Place k (q.sections k)) (λ k. Place k (later (p.sections k) (q.sections k)))
          (λ k x y. later-place k (p.sections k) (q.sections k) x y) numbers a.sections b.sections;
    }

-- joins of alike parts are alike
pub join-alike : (p q r s : Parts) → Alike p q → Alike r s → Alike (join_parts p r) (join_parts q s)
join-alike p q r s e f =
    record {
      flags = rw (e.flags, f.flags);
      downlink = rw (e.downlink, f.downlink);
      sections =
          each_with (λ k. p.sections k ≡ q.sections k) (λ k. r.sections k ≡ s.sections k)
          (λ k. later (p.sections k) (r.sections k) ≡ later (q.sections k) (s.sections k)) (λ k x y. ap₂ later x y) numbers
          e.sections f.sections;
    }

-- ---- The joined text

joined-bodies : (ks a b : List ℕ) → Each (λ k. is_one_of numbers k ≡ true) ks → Each (λ k. is_named b k ≡ present (body_of b k)) ks
    → join_sections ks a b ≡ bodies (λ k. later (body_of a k) (body_of b k)) ks
unfolding join_sections bodies
joined-bodies [] a b o n = refl
joined-bodies (k ∷ ks) a b o n =
    let here : join_section a b k ≡ later (body_of a k) (body_of b k) =
    rw (bytes-body a k o.0, bytes-body b k o.0, n.0) (later-named (body_of a k) (body_of b k)) in
    ap₂ ◌++◌ here (joined-bodies ks a b o.1 n.1)

module _ (a b : List ℕ) (x : Accepted a) (y : Accepted b) where
  abbrev both : Parts
  both = join_parts (parts_of a) (parts_of b)

  -- the joined text is that of the joined parts
  pub join-text : join_text a b ≡ text_of both
  unfolding join_text text_of
  join-text =
      rw (
        marked a x,
        marked b y,
        marks-later (body_of a) (body_of b) 2 numbers (omega arith) rising,
        joined-bodies numbers a b (refl, (refl, (refl, (refl, (refl, (refl, (refl, (refl, tt)))))))) (named-present b y),
      )

  both-sound : Sound both
  both-sound = join-sound (parts_of a) (parts_of b) (sound a x) (sound b y)

  -- the joined text is accepted
  pub join-accepted : Accepted (join_text a b)
  join-accepted = rw join-text (text-accepted both both-sound)

  -- the parts of the joined text are the joined parts
  pub join-parts : Alike (parts_of (join_text a b)) both
  join-parts =
      rw join-text
      (record {
        flags = flags-back both both-sound;
        downlink = downlink-back both both-sound;
        sections = bodies-back both both-sound;
      })
