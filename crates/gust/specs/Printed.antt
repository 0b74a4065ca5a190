-- The table of source document 001, section 2.2.4.1, as it is printed: of each line the columns m̄ (tonnes), c1 to c5.
use Rattle.std.specs.Prelude.{ℕ, zero, suc, ◌+◌, ◌-◌, ◌*◌, cond, List, [], ◌∷◌, map, eqb, ℤ, pos, neg_ℤ, get_or}
use Prim.Native.String.{String}
use Rattle.text.specs.Bytes.{bytes}
use Rattle.gust.specs.declared.Row.{Row}

abbrev pub printed : List String
printed =
    "120 0.971 2690 79 0.49 19.6" ∷
    "120 19.6 574 32 0.52 23.5" ∷
    "40 34.7 878 28 0.52 40.3" ∷
    "50 33.9 846 29 0.45 39.6" ∷
    "55 35.9 771 27 0.44 40.7" ∷
    "60 34.8 716 28 0.41 39.3" ∷
    "170 5.88 1010 55 0.44 13.7" ∷
    "170 5.89 1010 54 0.44 13.6" ∷
    "190 6.36 949 54 0.41 13.7" ∷
    "190 6.34 948 54 0.41 13.6" ∷
    "50 6.45 4580 83 0.54 37.3" ∷
    "30 62.0 351 14 0.64 59.4" ∷
    "40 56.4 328 15 0.56 54.7" ∷
    "40 56.3 329 15 0.56 54.5" ∷
    "40 56.4 303 14 0.57 54.3" ∷
    "40 45.4 420 18 0.57 45.3" ∷
    "50 42.4 374 19 0.54 42.4" ∷
    "50 42.2 350 18 0.57 41.9" ∷
    "250 -2.41 2230 97 0.65 11.5" ∷
    "200 2.27 1630 81 0.69 13.3" ∷
    "250 -7.78 3260 120 0.62 10.2" ∷
    "250 7.44 644 48 0.74 12.4" ∷
    "100 29.2 298 22 0.55 30" ∷
    "100 28.9 292 21 0.55 29.7" ∷
    "110 12.8 918 46 0.65 19.8" ∷
    "100 13.1 821 42 0.69 19.4" ∷
    "150 12.9 701 45 0.54 18.3" ∷
    "170 12.6 198 21 0.72 13.0" ∷
    "210 13.1 147 19 0.65 12.9" ∷
    "30 55.8 924 27 0.54 60.1" ∷
    "30 50.6 930 28 0.54 55.3" ∷
    "200 -6.45 4080 130 0.56 15.0" ∷
    "30 48.9 220 9.1 0.57 41.2" ∷
    "35 52.9 917 27 0.52 57.2" ∷
    "3 70.6 2280 89 0.74 223." ∷
    "150 11.7 712 47 0.59 17.1" ∷
    []

-- ---- A printed decimal as a whole number, k places moved: 0.49 is 49 at two places, `223.` is 223000 at three

unfoldable pub places : ℕ → ℕ → List ℕ → ℕ
places n zero ds = n
places n (suc k) [] = places (n * 10) k []
places n (suc k) (d ∷ ds) = places (n * 10 + (d - 48)) k ds

-- 46 is `.`
unfoldable pub whole : ℕ → ℕ → List ℕ → ℕ
whole n k [] = places n k []
whole n k (d ∷ ds) = cond (eqb d 46) (places n k ds) (whole (n * 10 + (d - 48)) k ds)

-- 45 is `-`
unfoldable pub moved : ℕ → List ℕ → ℤ
moved k [] = pos 0
moved k (d ∷ ds) = cond (eqb d 45) (neg_ℤ (pos (whole 0 k ds))) (pos (whole 0 k (d ∷ ds)))

-- 32 is the space between two of them
unfoldable pub words : List ℕ → List (List ℕ)
words [] = [] ∷ []
words (d ∷ ds) = cond (eqb d 32) ([] ∷ words ds) (onto d (words ds))
  where
    onto : ℕ → List (List ℕ) → List (List ℕ)
    onto d [] = (d ∷ []) ∷ []
    onto d (w ∷ ws) = (d ∷ w) ∷ ws

-- document 02's scales: 1000·c1, 1,000,000·c2, 1000·c3, 100·c4, 1000·c5; the reference mass in kg
abbrev pub row_of : List (List ℕ) → Row
row_of ws = record {
  c1 = moved 3 (get_or ws 1 []);
  c2 = moved 6 (get_or ws 2 []);
  c3 = moved 3 (get_or ws 3 []);
  c4 = moved 2 (get_or ws 4 []);
  c5 = moved 3 (get_or ws 5 []);
  reference = moved 3 (get_or ws 0 []);
}

unfoldable pub printed_rows : List Row
printed_rows = map (λ (l : String). row_of (words (bytes l))) printed
