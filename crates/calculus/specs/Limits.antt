-- The limits of a file, and what may stand in a command below others: ids, premises, levels, the words of pol lines (01, section 1; 02, No. 2).
use Rattle.std.specs.Prelude.{Bool, true, false, not, ◌&&◌, ◌||◌, List, [], ◌∷◌, ◌++◌, ℕ, suc, ◌+◌, ◌≤◌, T, leb, ltb, length}
use Rattle.calculus.specs.Bytes.{bytes}
use Rattle.calculus.specs.Terms.{Term, Terms, num, var, app, nil, cons, listed, PolWord, line_word, plain_word, negated_word, plus-word, saturate-word, times-word, over_word, Command, assume, step, pol, id_of, same_name}

-- bytes of a text, nodes, levels, commands and pol lines
abbrev pub max_text : ℕ
max_text = 32768

abbrev pub max_nodes : ℕ
max_nodes = 4096

abbrev pub max_depth : ℕ
max_depth = 64

abbrev pub max_commands : ℕ
max_commands = 512

abbrev pub max_pols : ℕ
max_pols = 64

-- a node is a numeral, a variable, an application or a cited premise
unfoldable mutual
  pub nodes : Term → ℕ
  nodes (num z) = 1
  nodes (var x) = 1
  nodes (app o ts) = suc (nodes_in ts)

  pub nodes_in : Terms → ℕ
  nodes_in nil = 0
  nodes_in (cons t ts) = nodes t + nodes_in ts

-- the nodes of a command, cited premises among them; pol lines count none
unfoldable pub command_nodes : Command → ℕ
command_nodes (assume d x) = nodes x
command_nodes (step d c r ds xs) = nodes_in (listed c) + (length ds + nodes_in (listed xs))
command_nodes (pol d ws) = 0

-- the nodes of all commands
unfoldable pub all_nodes : List Command → ℕ
all_nodes [] = 0
all_nodes (c ∷ cs) = command_nodes c + all_nodes cs

-- at least one argument
unfoldable pub some : Terms → Bool
some nil = false
some (cons t ts) = true

-- a term at level l, one more than the number of applications around it: no level is beyond the depth,
-- and an application has at least one argument
unfoldable mutual
  pub fits : ℕ → Term → Bool
  fits l (num z) = leb l max_depth
  fits l (var x) = leb l max_depth
  fits l (app o ts) = leb l max_depth && (some ts && fit_all (suc l) ts)

  pub fit_all : ℕ → Terms → Bool
  fit_all l nil = true
  fit_all l (cons t ts) = fits l t && fit_all l ts

-- some command has the id d
unfoldable pub known : List Command → List ℕ → Bool
known [] d = false
known (c ∷ cs) d = same_name (id_of c) d || known cs d

-- each of the ids ds
unfoldable pub all_known : List Command → List (List ℕ) → Bool
all_known cs [] = true
all_known cs (d ∷ ds) = known cs d && all_known cs ds

-- how many pol lines
unfoldable pub pol_lines : List Command → ℕ
pol_lines [] = 0
pol_lines (assume d x ∷ cs) = pol_lines cs
pol_lines (step d c r ds xs ∷ cs) = pol_lines cs
pol_lines (pol d ws ∷ cs) = suc (pol_lines cs)

-- in pol lines `d` and `s` are always operations
unfoldable pub operand : List ℕ → Bool
operand x = not (same_name (bytes "d") x) && not (same_name (bytes "s") x)

-- a name is an id where one is defined above, and a literal where none is
unfoldable pub allowed_word : (List ℕ → Bool) → PolWord → Bool
allowed_word above (line_word d) = operand d && above d
allowed_word above (plain_word x) = operand x && not (above x)
allowed_word above (negated_word x) = true
allowed_word above plus-word = true
allowed_word above saturate-word = true
allowed_word above (times-word m) = true
allowed_word above (over_word m) = true

-- each of the words
unfoldable pub allowed_words : (List ℕ → Bool) → List PolWord → Bool
allowed_words above [] = true
allowed_words above (w ∷ ws) = allowed_word above w && allowed_words above ws

-- at least one
unfoldable pub some_word : List PolWord → Bool
some_word [] = false
some_word (w ∷ ws) = true

-- a command below the commands cs: its id is new, its premises are defined above, its terms fit; a pol line is at most the 64th
unfoldable pub allowed : List Command → Command → Bool
allowed cs (assume d x) = not (known cs d) && fits 1 x
allowed cs (step d c r ds xs) = not (known cs d) && (fit_all 1 (listed c) && (all_known cs ds && fit_all 1 (listed xs)))
allowed cs (pol d ws) = not (known cs d) && (ltb (pol_lines cs) max_pols && (some_word ws && allowed_words (known cs) ws))

-- each of the commands ds below those before it
unfoldable pub allowed_behind : List Command → List Command → Bool
allowed_behind cs [] = true
allowed_behind cs (c ∷ ds) = allowed cs c && allowed_behind (cs ++ (c ∷ [])) ds

-- the commands of a file that is read behind the commands before: their ids are known, and the limits are for both together
pub record LimitsBehind (before cs : List Command) : Type 0 where
  pub allowed : T (allowed_behind before cs)
  pub nodes : all_nodes (before ++ cs) ≤ max_nodes
  pub commands : length (before ++ cs) ≤ max_commands

-- behind none
abbrev pub Limits : List Command → Type 0
Limits cs = LimitsBehind [] cs
