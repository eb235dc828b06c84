-- Demand 3 holds, whole. Assumes nothing.
use Rattle.wave.specs.DemandThree.{DemandThree}
use Rattle.wave.proofs.ReachCalls.{syndrome_lent, reach_calls, any_gap_of_v}
use Rattle.wave.proofs.Checks.{check_says_yes, packed_says_yes, text_says_yes, one_word, packed_one_word, text_one_word}
use Rattle.wave.proofs.EndToEnd.{end_to_end, end_to_end_planes, end_to_end_text}

pub demand_three : DemandThree
demand_three =
    record {
      -- its planes, written by `ones_of` and `twos_of`
      every_syndrome = syndrome_lent;
      -- from a call to its choices as vectors, and back: lent planes and the vectors that they hold; `reach` of Reach between
      reach = reach_calls;
      -- the terms are those of g_U and w alone
      any_gap_of_v = any_gap_of_v;
      -- the full word of y and s is the one word that has the syndrome and extends s
      verifier = check_says_yes;
      packed_verifier = packed_says_yes;
      text_verifier = text_says_yes;
      one_word = one_word;
      packed_one_word = packed_one_word;
      text_one_word = text_one_word;
      -- what is stored is what was packed, and a released word has the syndrome and weight w, which its ones and twos add up to
      end_to_end = end_to_end;
      end_to_end_planes = end_to_end_planes;
      -- the check of a text is that of the packed y which it makes
      end_to_end_text = end_to_end_text;
    }
