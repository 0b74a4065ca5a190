-- Every text of sound parts is accepted, and its parts are found again.
use mathlib.Core.Path.{◌≡◌, refl, sym, ap, ◌∙◌}
use mathlib.Core.Bool.{true}
use mathlib.Core.List.{List, [], ◌∷◌, ◌++◌, map, append_assoc, append-nil}
use Prim.Native.Nat.{ℕ, ◌+◌, ◌≤◌}
use native.Mathlib.Omega.{arith}
use lib.ListN.{length, get_or, take, drop, length-append}
use lib.Seq.{take_at, get_or_at, drop-append-add}
use Rattle.text.specs.Parts.{part}
use Rattle.section.specs.Layout.{layout_of, numbers}
use Rattle.section.proofs.Own.{own-most}
use Rattle.command.specs.Text.{awr04, is_downlink, is_indicator, is_named, sections_most, check_command}
use Rattle.command.proofs.Each.{Each}
use Rattle.command.proofs.Head.{Head, passes, passes-length, passes_append}
use Rattle.command.proofs.Parts.{Parts, present, marks, bodies, text_of, body_of, Place, Absent, Present, flag_tests, Sound}
use Rattle.command.proofs.Marks.{indicators, marks-length, marks_pass, names-from}
use Rattle.command.proofs.Walk.{Found, finds}
use Rattle.command.proofs.Accepted.{Accepted, accepts, rising, longest-is}
use Rattle.std.specs.Prelude.{Ok}

bodies-most : (f : ℕ → List ℕ) (ks : List ℕ) → Each (λ k. Place k (f k)) ks → length (bodies f ks) ≤ sections_most ks
unfolding bodies sections_most
bodies-most f [] p = omega arith
bodies-most f (k ∷ ks) (Absent none, p) = rw none (omega (arith, bodies-most f ks p))
bodies-most f (k ∷ ks) (Present some own, p) =
    rw (some, length-append (f k) (bodies f ks)) (omega (arith, own-most (layout_of k) (f k) own, bodies-most f ks p))

drop_past : (l ys : List ℕ) (n m : ℕ) → length l ≡ n → drop (n + m) (l ++ ys) ≡ drop m ys
drop_past l ys n m e = rw (← e) (drop-append-add l ys m)

module _ (p : Parts) (ok : Sound p) where
  abbrev bs : List ℕ
  bs = bodies p.sections numbers

  abbrev hs : List ℕ
  hs = p.flags ++ (p.downlink ∷ marks p.sections numbers)

  seven : length p.flags ≡ 7
  seven = passes-length flag_tests p.flags ok.flags

  eight : length (marks p.sections numbers) ≡ 8
  eight = marks-length p.sections numbers

  sixteen : length hs ≡ 16
  sixteen = omega (arith, length-append p.flags (p.downlink ∷ marks p.sections numbers), seven, eight)

  text-is : text_of p ≡ awr04 ++ (hs ++ 47 ∷ bs)
  unfolding text_of
  text-is = ap (λ (l : List ℕ). awr04 ++ l) (sym (append_assoc p.flags (p.downlink ∷ marks p.sections numbers) (47 ∷ bs)))

  text-length : length (text_of p) ≡ 22 + length bs
  text-length = rw (text-is, length-append hs (47 ∷ bs), sixteen) (omega arith)

  text-bytes : part 5 16 (text_of p) ≡ hs
  text-bytes = rw text-is (take_at hs (47 ∷ bs) 16 sixteen)

  text-rest : drop 22 (text_of p) ≡ bs
  text-rest = rw text-is (drop_past hs (47 ∷ bs) 16 1 sixteen)

  -- the flags, the downlink digit, the indicators are where they were put
  pub flags-back : part 5 7 (text_of p) ≡ p.flags
  unfolding text_of
  flags-back = take_at p.flags (p.downlink ∷ (marks p.sections numbers ++ 47 ∷ bs)) 7 seven

  -- so is the downlink digit
  pub downlink-back : get_or (text_of p) 12 0 ≡ p.downlink
  unfolding text_of
  downlink-back = get_or_at p.flags p.downlink (marks p.sections numbers ++ 47 ∷ bs) 0 7 seven

  -- and so are the indicators
  pub marks-back : part 13 8 (text_of p) ≡ marks p.sections numbers
  unfolding text_of
  marks-back =
      ap (take 8) (drop_past p.flags (p.downlink ∷ (marks p.sections numbers ++ 47 ∷ bs)) 7 1 seven)
      ∙ take_at (marks p.sections numbers) (47 ∷ bs) 8 eight

  digit_pass : passes (is_downlink ∷ map is_indicator numbers) (p.downlink ∷ marks p.sections numbers) ≡ true
  unfolding passes
  digit_pass = rw ok.downlink (marks_pass p.sections numbers ok.sections)

  text-begins : part 0 5 (text_of p) ≡ awr04
  unfolding text_of
  text-begins = refl

  text-ends : get_or (text_of p) 21 0 ≡ 47
  text-ends = rw text-is (get_or_at hs 47 bs 0 16 sixteen)

  text_head : Head (text_of p)
  text_head =
      record {
        inside = omega (arith, text-length);
        begins = text-begins;
        bytes =
            rw text-bytes
            (passes_append flag_tests (is_downlink ∷ map is_indicator numbers) p.flags (p.downlink ∷ marks p.sections numbers)
            ok.flags digit_pass);
        ends = text-ends;
      }

  -- it names just the sections that have bytes
  pub named_back : Each (λ k. is_named (text_of p) k ≡ present (p.sections k)) numbers
  named_back =
      names-from (text_of p) p.sections 2 numbers (omega arith) rising (sym (indicators (text_of p) (omega (arith, text-length))) ∙ marks-back)

  text-found : Found p.sections numbers (text_of p) 22
  text-found =
      finds p.sections 2 numbers (text_of p) [] 22 rising ok.sections named_back (omega (arith, text-length)) (text-rest ∙ sym (append-nil bs))

  -- and each section's own bytes are found again
  pub bodies-back : Each (λ k. body_of (text_of p) k ≡ p.sections k) numbers
  bodies-back = text-found.found

  -- the text is accepted
  pub text-accepted : Accepted (text_of p)
  text-accepted =
      let l = text-length in
      record {
        short = omega (arith, bodies-most p.sections numbers ok.sections, longest-is);
        head = text_head;
        walk = text-found.check ∙ ap Ok (sym l);
      }

  -- 22 good bytes and the own bytes of just the sections named are an accepted command
  pub text-fine : check_command (text_of p) ≡ Ok tt
  text-fine = accepts (text_of p) text-accepted
